use Rattle.std.proofs.Common.{ℕ}
use Rattle.constraint_ast.specs.Trees.{tree_of}
use Rattle.constraint_ast.specs.Machine.{InElse, State}
use Rattle.constraint_ast.specs.Reading.{RefusesBody, before_pred}
use Rattle.constraint_ast.proofs.Lexing.{handed_on}
use Rattle.constraint_ast.proofs.parser.Parser.behind_else.Goals as goal

pub returns-in_err-other-clause-err : goal.returns-in_err-other-clause-err
returns-in_err-other-clause-err c =
    let start : ℕ → State = λ line. before_pred (InElse line (tree_of c.args.premise) (tree_of c.args.pred)) in
    handed_on _ (RefusesBody c.args.self.now.last c.args.tokens.now start) c.from_residual.result c.in_err-other.field-0.0 c.from_residual.ensures.1
    (c.in_err-other.ensures.no_other (tree_of c.args.premise) (tree_of c.args.pred))
