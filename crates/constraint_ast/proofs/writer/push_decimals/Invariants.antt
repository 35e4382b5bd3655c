use Rattle.std.specs.String.{string_bytes}
use Rattle.constraint_ast.proofs.Decimals.{DecimalsLeft}
use Rattle.constraint_ast.proofs.writer.push_decimals.Given as goal

abbrev pub invariant-loop-left : goal.invariant-loop-left
invariant-loop-left l = DecimalsLeft (string_bytes l.initial.out) (string_bytes l.out) l.fraction l.places l.left

abbrev pub decreases-loop-left : goal.decreases-loop-left
decreases-loop-left l = l.places
