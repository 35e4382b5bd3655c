use Rattle.acts_front.proofs.Comments.{Seen}
use Rattle.acts_front.proofs.line.before_comment.Given as goal

abbrev pub invariant-loop-at : goal.invariant-loop-at
invariant-loop-at l = Seen l.line l.quoted l.at
