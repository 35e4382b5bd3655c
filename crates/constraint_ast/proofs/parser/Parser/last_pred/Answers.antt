use Rattle.std.proofs.Common.{ℕ}
use Rattle.constraint_ast.specs.Machine.{InElse, InPlain, Spot}
use Rattle.constraint_ast.specs.Reading.{RefusesBody, before_pred}
use Rattle.constraint_ast.proofs.Lexing.{handed_on}
use Rattle.constraint_ast.proofs.Rules.{pred_refused}
use Rattle.constraint_ast.proofs.parser.Parser.last_pred.Goals as goal

pub returns-in_err-last-clause-no_plain : goal.returns-in_err-last-clause-no_plain
returns-in_err-last-clause-no_plain c =
    handed_on _ (RefusesBody c.args.self.now.last c.args.tokens.now (λ line. before_pred (InPlain line))) c.from_residual.result c.in_err-last.field-0.0 c.from_residual.ensures.1
    (pred_refused c.args.self.now.last c.args.tokens.now InPlain c.in_err-last.field-0.0 c.in_err-last.ensures.err)

pub returns-in_err-last-clause-no_other : goal.returns-in_err-last-clause-no_other
returns-in_err-last-clause-no_other c = λ premise pred.
    let start : ℕ → Spot = λ line. InElse line premise pred in
    handed_on _ (RefusesBody c.args.self.now.last c.args.tokens.now (λ line. before_pred (start line))) c.from_residual.result c.in_err-last.field-0.0 c.from_residual.ensures.1
    (pred_refused c.args.self.now.last c.args.tokens.now start c.in_err-last.field-0.0 c.in_err-last.ensures.err)
