use Rattle.std.proofs.Common.{◌+◌, ◌*◌, ◌&&◌}
use Rattle.std.specs.Prelude.{nat_lt}
use Rattle.shared_marks.specs.Adding.{Marks, is_in_words}
use Rattle.shared_marks.proofs.ranks.mark_words.Given as goal

abbrev pub invariant-loop-at : goal.invariant-loop-at
invariant-loop-at l = Marks (λ place. nat_lt place (64 * (l.first + l.at)) && is_in_words l.first l.words place) l.initial.seat l.seat
