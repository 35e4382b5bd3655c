use Rattle.std.proofs.Common.{◌∷◌, ◌∙◌}
use Rattle.constraint_ast.specs.declared.token.RuleToken.TheVariants.{Name, Sign, OpenParen, CloseParen}
use Rattle.constraint_ast.proofs.Written.{ends}
use Rattle.constraint_ast.proofs.writer.put_signed.Goals as goal

pub returns : goal.returns
returns c =
    ends c.put-3.result c.args.line.now c.put_name.new.line c.put-3.new.line (λ rest. Sign c.args.sign ∷ OpenParen ∷ Name c.args.name.now ∷ CloseParen ∷ rest) (λ rest. CloseParen ∷ rest)
    (λ rest. c.in_ok-put.ensures (OpenParen ∷ Name c.args.name.now ∷ CloseParen ∷ rest)
    ∙ (c.in_ok-put-2.ensures (Name c.args.name.now ∷ CloseParen ∷ rest) ∙ c.in_ok-put_name.ensures (CloseParen ∷ rest)))
    c.put-3.ensures
