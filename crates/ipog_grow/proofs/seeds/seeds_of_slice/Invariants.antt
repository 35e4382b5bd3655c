use Rattle.std.proofs.Common.{◌≡◌, length, take, filter}
use Rattle.definitions.specs.believed.Growth.{is_of_slice}
use Rattle.ipog_grow.proofs.seeds.seeds_of_slice.Given as goal

-- the seeds of the slice before this place
abbrev pub invariant-loop-i : goal.invariant-loop-i
invariant-loop-i l = record {
  rows : l.rows ≡ filter (is_of_slice l.model l.slice) (take l.i l.kept);
  long : length l.seed ≡ length l.model.params;
}
