use Rattle.std.proofs.Common.{◌∷◌, ap, sym, ◌∙◌}
use Rattle.constraint_ast.specs.believed.RuleText.{literals_before, term_before}
use Rattle.constraint_ast.specs.Writing.{line_with}
use Rattle.constraint_ast.specs.declared.token.RuleToken.TheVariants.{Name, Literal, Relation, In, Like, OpenBrace, CloseBrace}
use Rattle.constraint_ast.specs.declared.tree.RawLiteral.TheVariants.{Words}
use Rattle.constraint_ast.proofs.Written.{ends}
use Rattle.constraint_ast.proofs.writer.put_term.Goals as goal

pub returns-in_ok-put-in-ValueIs : goal.returns-in_ok-put-in-ValueIs
returns-in_ok-put-in-ValueIs c =
    ends c.put_literal.result c.args.line.now c.put.new.line c.put_literal.new.line (term_before c.args.term.now) (λ rest. Literal c.in-ValueIs.literal ∷ rest)
    (λ rest. ap (λ term. line_with c.args.line.now (term_before term rest)) c.in-ValueIs.is
    ∙ (c.in_ok-put_name-in-ValueIs.ensures (Relation c.in-ValueIs.rel ∷ Literal c.in-ValueIs.literal ∷ rest) ∙ c.in_ok-put-in-ValueIs.ensures (Literal c.in-ValueIs.literal ∷ rest)))
    c.put_literal.ensures

pub returns-in_ok-put-in-ParamIs : goal.returns-in_ok-put-in-ParamIs
returns-in_ok-put-in-ParamIs c =
    ends c.put_name-in-ParamIs-2.result c.args.line.now c.put-in-ParamIs.new.line c.put_name-in-ParamIs-2.new.line (term_before c.args.term.now) (λ rest. Name c.in-ParamIs.other ∷ rest)
    (λ rest. ap (λ term. line_with c.args.line.now (term_before term rest)) c.in-ParamIs.is
    ∙ (c.in_ok-put_name-in-ParamIs.ensures (Relation c.in-ParamIs.rel ∷ Name c.in-ParamIs.other ∷ rest) ∙ c.in_ok-put-in-ParamIs.ensures (Name c.in-ParamIs.other ∷ rest)))
    c.put_name-in-ParamIs-2.ensures

pub returns-in_ok-put_literals-in-OneOf : goal.returns-in_ok-put_literals-in-OneOf
returns-in_ok-put_literals-in-OneOf c =
    ends c.put-in-OneOf-3.result c.args.line.now c.put_literals.new.line c.put-in-OneOf-3.new.line (term_before c.args.term.now) (λ rest. CloseBrace ∷ rest)
    (λ rest.
    let list = literals_before c.in-OneOf.literals (CloseBrace ∷ rest) in
    ap (λ term. line_with c.args.line.now (term_before term rest)) c.in-OneOf.is
    ∙ (c.in_ok-put_name-in-OneOf.ensures (In ∷ OpenBrace ∷ list) ∙ (c.in_ok-put-in-OneOf.ensures (OpenBrace ∷ list)
    ∙ (c.in_ok-put-in-OneOf-2.ensures list
    ∙ (ap (λ xs. line_with c.put-in-OneOf-2.new.line (literals_before xs (CloseBrace ∷ rest))) (sym c.as_slice.ensures) ∙ c.in_ok-put_literals-in-OneOf.ensures (CloseBrace ∷ rest))))))
    c.put-in-OneOf-3.ensures

pub returns-in_ok-put-in-Like : goal.returns-in_ok-put-in-Like
returns-in_ok-put-in-Like c =
    ends c.put_text.result c.args.line.now c.put-in-Like.new.line c.put_text.new.line (term_before c.args.term.now) (λ rest. Literal (Words c.in-Like.pattern) ∷ rest)
    (λ rest. ap (λ term. line_with c.args.line.now (term_before term rest)) c.in-Like.is
    ∙ (c.in_ok-put_name-in-Like.ensures (Like ∷ Literal (Words c.in-Like.pattern) ∷ rest) ∙ c.in_ok-put-in-Like.ensures (Literal (Words c.in-Like.pattern) ∷ rest)))
    c.put_text.ensures
