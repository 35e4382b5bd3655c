use Rattle.acts_front.proofs.Parts.{IsCut}
use Rattle.acts_front.specs.Reading.{joint_test, token_seen}
use Rattle.acts_front.proofs.constraint.cut_part.Given as goal

abbrev pub invariant-loop-place : goal.invariant-loop-place
invariant-loop-place l = IsCut (joint_test l.joint) token_seen l.tokens l.opened l.place
