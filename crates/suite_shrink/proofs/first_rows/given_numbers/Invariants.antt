use Rattle.std.proofs.Common.{◌≡◌, map, take, get_or}
use Rattle.suite_shrink.proofs.first_rows.given_numbers.Given as goal

abbrev pub invariant-loop-number : goal.invariant-loop-number
invariant-loop-number l = l.given.items ≡ map (λ number. get_or l.first number 0) (take l.number-index l.numbers)
