use Rattle.std.proofs.Common.{length}
use Rattle.model_lex.specs.believed.Lines.{numbered_lines}
use Rattle.acts_front.specs.Reading.{SoFar}
use Rattle.acts_front.proofs.translator.translate.Given as goal

abbrev pub invariant-loop-rest : goal.invariant-loop-rest
invariant-loop-rest l = SoFar (numbered_lines l.fn.bytes) l.fold l.translator l.number l.rest

abbrev pub decreases-loop-rest : goal.decreases-loop-rest
decreases-loop-rest l = length l.rest
