use Rattle.std.proofs.Common.{◌-◌, length}
use Rattle.std.specs.String.{string_bytes}
use Rattle.constraint_ast.proofs.Unquoting.{Unquoting}
use Rattle.constraint_ast.proofs.quoting.unquoted.Given as goal

abbrev pub invariant-loop-at : goal.invariant-loop-at
invariant-loop-at l = Unquoting l.text (string_bytes l.plain) l.start l.at

abbrev pub decreases-loop-at : goal.decreases-loop-at
decreases-loop-at l = length l.text - l.at
