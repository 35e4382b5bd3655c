use Rattle.std.proofs.Common.{drop}
use Rattle.constraint_ast.specs.believed.RuleText.{more_before}
use Rattle.constraint_ast.specs.Trees.{trees_in}
use Rattle.constraint_ast.proofs.Written.{Leaves}
use Rattle.constraint_ast.proofs.writer.+write.Given as goal

abbrev pub invariant-put_parts-loop-part : goal.invariant-put_parts-loop-part
invariant-put_parts-loop-part l = Leaves l.initial.line (more_before l.word l.place (trees_in l.more)) l.line (more_before l.word l.place (trees_in (drop l.part-index l.more)))
