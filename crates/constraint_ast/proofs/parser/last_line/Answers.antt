use Rattle.std.proofs.Common.{◌<◌, ap, arith, ◌∙◌, length}
use Rattle.constraint_ast.proofs.Rules.{last_at}
use Rattle.constraint_ast.proofs.parser.last_line.Goals as goal

pub returns-in-len1-up : goal.returns-in-len1-up
returns-in-len1-up c =
    let some : 0 < length c.args.tokens.now = omega arith in
    ap (λ token. token.line) c.token-item.is ∙ last_at c.args.tokens.now c.token-item.result some
