use Rattle.std.proofs.Common.{◌+◌, ◌*◌}
use Rattle.std.specs.Prelude.{option_map}
use Rattle.acts_front.specs.Constraints.{conj_of}
use Rattle.acts_front.specs.believed.Constraints.{is_and, is_or, parts, unit_of}
use Rattle.acts_front.specs.Findings.{finding_in}
use Rattle.acts_front.specs.Reading.{tokens_seen}
use Rattle.acts_front.proofs.Worst.{IsWorst, ahead_len}
use Rattle.acts_front.proofs.scope.Scope.+check.Given as goal

abbrev pub decreases-unit : goal.decreases-unit
decreases-unit l = 4 * l.room

abbrev pub decreases-conjunction : goal.decreases-conjunction
decreases-conjunction l = 4 * l.room + 1

abbrev pub decreases-disjunction : goal.decreases-disjunction
decreases-disjunction l = 4 * l.room + 2

abbrev pub decreases-enclosed : goal.decreases-enclosed
decreases-enclosed l = 4 * l.room + 3

abbrev pub invariant-conjunction-loop-ahead : goal.invariant-conjunction-loop-ahead
invariant-conjunction-loop-ahead l =
    IsWorst (λ part. finding_in l.self (unit_of l.room part)) (parts is_and (tokens_seen l.fn.tokens)) l.worst (option_map (λ rest. parts is_and (tokens_seen rest.now)) l.ahead)

abbrev pub decreases-conjunction-loop-ahead : goal.decreases-conjunction-loop-ahead
decreases-conjunction-loop-ahead l = ahead_len l.ahead

abbrev pub invariant-disjunction-loop-ahead : goal.invariant-disjunction-loop-ahead
invariant-disjunction-loop-ahead l =
    IsWorst (λ part. finding_in l.self (conj_of l.room part)) (parts is_or (tokens_seen l.fn.tokens)) l.worst (option_map (λ rest. parts is_or (tokens_seen rest.now)) l.ahead)

abbrev pub decreases-disjunction-loop-ahead : goal.decreases-disjunction-loop-ahead
decreases-disjunction-loop-ahead l = ahead_len l.ahead
