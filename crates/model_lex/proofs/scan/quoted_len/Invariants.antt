use Rattle.std.proofs.Common.{length, ◌-◌}
use Rattle.model_lex.proofs.Quoting.{QuotedFrom}
use Rattle.model_lex.proofs.scan.quoted_len.Given as goal

abbrev pub invariant-loop-at : goal.invariant-loop-at
invariant-loop-at l = QuotedFrom l.close l.text l.at

abbrev pub decreases-loop-at : goal.decreases-loop-at
decreases-loop-at l = length l.text - l.at
