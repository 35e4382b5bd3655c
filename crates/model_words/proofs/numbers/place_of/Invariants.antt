use Rattle.std.proofs.Common.{◌≡◌, ◌≤◌, ◌-◌, ◌++◌, drop, length, take}
use Rattle.model_words.specs.believed.Explanations.{with_number}
use Rattle.model_words.proofs.numbers.place_of.Given as goal

abbrev pub decreases-loop-at : goal.decreases-loop-at
decreases-loop-at l = length l.rising - l.at

-- the numbers before this place are less
abbrev pub invariant-loop-at : goal.invariant-loop-at
invariant-loop-at l = record {
  place : take l.at l.rising ++ with_number l.number (drop l.at l.rising) ≡ with_number l.number l.rising;
  within : l.at ≤ length l.rising;
}
