use Rattle.constraint_ast.proofs.Answer.{are_refused, are_spelled}
use Rattle.constraint_ast.proofs.parser.parse_all.Goals as goal

pub returns-clause-ok : goal.returns-clause-ok
returns-clause-ok c = are_spelled c.args.tokens.now c.rules.result (rw (← c.last_line-last.ensures) c.rules.ensures.ok)

pub returns-clause-err : goal.returns-clause-err
returns-clause-err c = are_refused c.args.tokens.now c.rules.result (rw (← c.last_line-last.ensures) c.rules.ensures.err)
