use Rattle.std.proofs.Common.{drop}
use Rattle.constraint_ast.specs.believed.RuleText.{more_literals}
use Rattle.constraint_ast.proofs.Written.{Leaves}
use Rattle.constraint_ast.proofs.writer.put_literals.Given as goal

abbrev pub invariant-loop-literal : goal.invariant-loop-literal
invariant-loop-literal l = Leaves l.initial.line (more_literals l.more) l.line (more_literals (drop l.literal-index l.more))
