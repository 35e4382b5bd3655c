use Rattle.std.proofs.Common.{◌≡◌, ◌≤◌, All, ℕ, List, Option, length, sum_by, take}
use Rattle.definitions.specs.believed.Seeds.{kept_seeds}
use Rattle.feasibility.specs.Refuting.{earlier_tuples}
use Rattle.ipog_grow.specs.Omissions.{AreOmissionsOf, met_count}
use Rattle.ipog_grow.proofs.Slicing.{SlicesGrown}
use Rattle.ipog_grow.proofs.generating.grow_slices.Given as goal

-- the slices before this place are grown, and no question of theirs cost more than it may; they omit no more tuples than
-- they meet
abbrev pub invariant-loop-slice : goal.invariant-loop-slice
invariant-loop-slice g l = record {
  grown : (seeds : List (ℕ × List (Option ℕ))) → l.input.kept.now ≡ kept_seeds l.input.model.now seeds
      → SlicesGrown l.input.model.now l.input.prefs.now l.input.effort seeds (take l.slice-index l.slices) l.rows
      (earlier_tuples l.input.model.now l.omissions);
  omissions : AreOmissionsOf l.input.model.now l.input.prefs.now l.input.effort l.input.proof l.omissions;
  count : length l.omissions.omissions ≤ sum_by (met_count l.input.model.now) (take l.slice-index l.slices);
  long : All (λ row. length row ≡ length l.input.model.now.params) l.rows;
}
