use Rattle.std.proofs.Common.{◌≡◌, take}
use Rattle.std.specs.Prelude.{nat_lt}
use Rattle.std.specs.List.{filter}
use Rattle.suite_facts.proofs.rounds.those_below.Given as goal

-- the numbers before this one
abbrev pub invariant-loop-number : goal.invariant-loop-number
invariant-loop-number l = l.counts.items ≡ filter (λ n. nat_lt n l.count) (take l.number-index l.numbers)
