use Rattle.constraint_ast.proofs.Rules.{plain_refused}
use Rattle.constraint_ast.proofs.parser.Parser.body.Goals as goal

pub returns-in-None-clause-err : goal.returns-in-None-clause-err
returns-in-None-clause-err c = plain_refused c.plain.result c.args.self.now.last c.args.tokens.now c.requires c.in-None.ensures.none c.plain.ensures.err
