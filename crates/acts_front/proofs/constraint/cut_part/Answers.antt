use Rattle.acts_front.specs.Reading.{joint_test, token_seen}
use Rattle.acts_front.proofs.Parts.{cut_begins}
use Rattle.acts_front.proofs.constraint.cut_part.Goals as goal

pub loop-place-init : goal.loop-place-init
loop-place-init c = cut_begins (joint_test c.args.joint) token_seen c.args.tokens.now
