use Rattle.std.proofs.Common.{rules, arith}
use Rattle.type_check.proofs.RuleLists.{rule_refused, rules_next}
use Rattle.type_check.proofs.scope.Scope.checked_rules.Goals as goal

pub returns-in_err-body-clause-err : goal.returns-in_err-body-clause-err
returns-in_err-body-clause-err c =
    let told = rule_refused c.args.self.now.fold c.args.self.now.params.now c.args.raw.now c.loop-rule.rule-index c.rule-item.result c.loop-rule.rules c.in_err-body.field-0.0
    (omega arith) c.rule-item.is c.loop-rule.invariant c.in_err-body.ensures.err in
    search rules

pub loop-rule-preserved : goal.loop-rule-preserved
loop-rule-preserved c =
    rules_next c.args.self.now.fold c.args.self.now.params.now c.args.raw.now c.loop-rule.rule-index c.rule-item.result c.loop-rule.rules c.add_rule.new.rules c.in_ok-body.body
    (omega arith) c.rule-item.is c.loop-rule.invariant c.in_ok-body.ensures.ok c.in_ok-body.ensures.unrefused c.in_ok-add_rule.ensures
