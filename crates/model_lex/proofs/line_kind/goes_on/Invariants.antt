use Rattle.std.proofs.Common.{length}
use Rattle.model_lex.proofs.Opening.{StandsBehind}
use Rattle.model_lex.proofs.line_kind.goes_on.Given as goal

abbrev pub invariant-loop-rest : goal.invariant-loop-rest
invariant-loop-rest l = StandsBehind l.text l.rest

abbrev pub decreases-loop-rest : goal.decreases-loop-rest
decreases-loop-rest l = length l.rest
