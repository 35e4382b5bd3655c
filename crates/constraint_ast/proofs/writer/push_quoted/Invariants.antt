use Rattle.std.proofs.Common.{◌-◌, length}
use Rattle.std.specs.String.{string_bytes}
use Rattle.constraint_ast.proofs.Backslashes.{Quoting}
use Rattle.constraint_ast.proofs.writer.push_quoted.Given as goal

abbrev pub invariant-loop-at : goal.invariant-loop-at
invariant-loop-at l = Quoting l.text (string_bytes l.initial.out) (string_bytes l.out) l.start l.at

abbrev pub decreases-loop-at : goal.decreases-loop-at
decreases-loop-at l = length l.text - l.at
