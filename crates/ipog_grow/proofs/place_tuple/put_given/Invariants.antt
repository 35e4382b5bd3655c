use Rattle.std.proofs.Common.{◌≡◌, ◌≤◌, ℕ, None, drop, length, get_or}
use Rattle.tuple_index.specs.Plan.{value_given}
use Rattle.ipog_grow.proofs.place_tuple.put_given.Given as goal

abbrev pub decreases-loop-left : goal.decreases-loop-left
decreases-loop-left l = l.left

-- the members from a place on have their values
abbrev pub invariant-loop-left : goal.invariant-loop-left
invariant-loop-left l = record {
  within : l.left ≤ length l.members;
  long : length l.into ≡ length l.fn.into;
  each : (q : ℕ) → get_or l.into q None ≡ value_given (drop l.left l.members) (drop l.left l.values) q;
}
