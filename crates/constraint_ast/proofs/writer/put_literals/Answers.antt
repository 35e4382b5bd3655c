use Rattle.std.proofs.Common.{◌+◌, ◌-◌, List, ◌∷◌, take, drop, length, ap, ◌∙◌}
use Rattle.constraint_ast.specs.believed.RuleText.{more_literals}
use Rattle.constraint_ast.specs.Writing.{line_with}
use Rattle.constraint_ast.specs.declared.token.RuleToken.TheVariants.{Literal}
use Rattle.constraint_ast.specs.declared.tree.RawLiteral.{RawLiteral}
use Rattle.constraint_ast.proofs.Written.{literal_left}
use Rattle.constraint_ast.proofs.writer.put_literals.Goals as goal

pub loop-literal-preserved : goal.loop-literal-preserved
loop-literal-preserved c = λ rest.
    let more : List RawLiteral = take (length c.args.literals.now - 1) (drop 1 c.args.literals.now) in
    let left = more_literals (drop (c.loop-literal.literal-index + 1) more) rest in
    c.loop-literal.invariant rest
    ∙ (ap (λ tokens. line_with c.loop-literal.line tokens) (literal_left more c.loop-literal.literal-index c.literal-item.result rest c.loop-literal-test.true c.literal-item.is)
    ∙ (c.in_ok-put.ensures (Literal c.literal-item.result ∷ left) ∙ c.in_ok-put_literal-2.ensures left))
