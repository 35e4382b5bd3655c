use Rattle.std.proofs.Common.{◌≡◌, length, arith}
use Rattle.std.proofs.lemmas.Bool.Decides.{nat_tests}
use Rattle.constraint_ast.specs.Reading.{RefusesRules}
use Rattle.constraint_ast.proofs.Lexing.{handed_on}
use Rattle.constraint_ast.proofs.Rules.{all_read, one_more, refused_later}
use Rattle.constraint_ast.proofs.parser.Parser.rules.Goals as goal

pub returns-in_err-body-clause-err : goal.returns-in_err-body-clause-err
returns-in_err-body-clause-err c =
    let fault = c.in_err-body.field-0.0 in
    handed_on _ (RefusesRules c.args.self.now.last c.args.tokens.now) c.from_residual.result fault c.from_residual.ensures.1
    (refused_later c.args.self.now.last c.args.tokens.now c.loop-ahead.rules c.loop-ahead.ahead.now fault c.loop-ahead.invariant c.in_err-body.ensures.err)

pub loop-ahead-preserved : goal.loop-ahead-preserved
loop-ahead-preserved c =
    one_more c.args.self.now.last c.args.tokens.now c.loop-ahead.rules c.loop-ahead.ahead.now c.in_ok-body.rest.now c.first_line-line.result c.in_ok-body.body c.push.new.self c.loop-ahead.invariant
    c.first_line-line.ensures c.in_ok-body.ensures.ok c.in_ok-push.ensures.ok

pub returns-clause-ok : goal.returns-clause-ok
returns-clause-ok c =
    let none : length c.loop-ahead.ahead.now ≡ 0 = first_of (omega arith, grind (arith, nat_tests)) in
    all_read c.args.self.now.last c.args.tokens.now c.loop-ahead.rules c.loop-ahead.ahead.now c.loop-ahead.invariant none
