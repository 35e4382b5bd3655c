use Rattle.std.proofs.Common.{length}
use Rattle.model_lex.specs.believed.Lines.{numbered_lines}
use Rattle.seq_check.specs.Reading.{SoFar}
use Rattle.seq_check.proofs.reading.read_events.Given as goal

abbrev pub invariant-loop-rest : goal.invariant-loop-rest
invariant-loop-rest l = SoFar (numbered_lines l.fn.bytes) l.reading l.line l.rest

abbrev pub decreases-loop-rest : goal.decreases-loop-rest
decreases-loop-rest l = length l.rest
