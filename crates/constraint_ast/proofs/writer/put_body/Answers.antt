use Rattle.std.proofs.Common.{[], ◌∷◌, ap, ◌∙◌}
use Rattle.constraint_ast.specs.believed.RuleText.{body_tokens, tree_before}
use Rattle.constraint_ast.specs.Trees.{body_tree, tree_of}
use Rattle.constraint_ast.specs.Writing.{line_with}
use Rattle.constraint_ast.specs.declared.token.RuleToken.TheVariants.{Else, Semicolon}
use Rattle.constraint_ast.specs.declared.writer.Place.TheVariants.{Alone}
use Rattle.constraint_ast.proofs.Written.{ends_line}
use Rattle.constraint_ast.proofs.writer.put_body.Goals as goal

pub returns-in_ok-put_pred-in-Plain : goal.returns-in_ok-put_pred-in-Plain
returns-in_ok-put_pred-in-Plain c =
    ends_line c.put.result c.args.line.now c.put_pred.new.line c.put.new.line (body_tokens (body_tree c.args.body.now)) (λ rest. Semicolon ∷ rest)
    (ap (λ body. line_with c.args.line.now (body_tokens (body_tree body))) c.in-Plain.is ∙ c.in_ok-put_pred-in-Plain.ensures (Semicolon ∷ []))
    c.put.ensures

pub returns-in_ok-put_if-in-IfThen : goal.returns-in_ok-put_if-in-IfThen
returns-in_ok-put_if-in-IfThen c =
    ends_line c.put-in-IfThen.result c.args.line.now c.put_if.new.line c.put-in-IfThen.new.line (body_tokens (body_tree c.args.body.now)) (λ rest. Semicolon ∷ rest)
    (ap (λ body. line_with c.args.line.now (body_tokens (body_tree body))) c.in-IfThen.is ∙ c.in_ok-put_if-in-IfThen.ensures (Semicolon ∷ []))
    c.put-in-IfThen.ensures

pub returns-in_ok-put_pred-in-IfElse : goal.returns-in_ok-put_pred-in-IfElse
returns-in_ok-put_pred-in-IfElse c =
    let other = tree_before Alone (tree_of c.in-IfElse.other) (Semicolon ∷ []) in
    ends_line c.put-in-IfElse-2.result c.args.line.now c.put_pred-in-IfElse.new.line c.put-in-IfElse-2.new.line (body_tokens (body_tree c.args.body.now)) (λ rest. Semicolon ∷ rest)
    (ap (λ body. line_with c.args.line.now (body_tokens (body_tree body))) c.in-IfElse.is
    ∙ (c.in_ok-put_if-in-IfElse.ensures (Else ∷ other) ∙ (c.in_ok-put-in-IfElse.ensures other ∙ c.in_ok-put_pred-in-IfElse.ensures (Semicolon ∷ []))))
    c.put-in-IfElse-2.ensures
