use Rattle.std.proofs.Common.{◌<◌, arith, ap, length}
use Rattle.std.proofs.lemmas.Grind.{common_steps}
use Rattle.cov_model.specs.Sound.{no_rule}
use Rattle.cov_model.specs.believed.Views.{RuleView}
use Rattle.cov_model.proofs.SoundLemmas.{rule_seen}
use Rattle.model_lint.specs.Changes.{is_marked}
use Rattle.model_lint.proofs.Steps.{next_marked}
use Rattle.model_lint.proofs.conflict.marked_numbers.Goals as goal

pub loop-rule-preserved : goal.loop-rule-preserved
loop-rule-preserved c =
    let within : c.loop-rule.rule-index < length c.args.model.now.rules = grind (arith, common_steps, ap length c.rules.ensures.value) in
    let seen = rule_seen c.args.model.now.rules c.rules.result.now c.as_slice-rule-items.result.now c.loop-rule.rule-index c.rule-item.result c.rule-item.result no_rule
    c.rules.ensures.value c.as_slice-rule-items.ensures within c.rule-item.is in
    next_marked (is_marked c.args.marks.now) c.args.model.now.rules c.loop-rule.rule-index no_rule c.rule-item.result.number c.loop-rule.numbers c.add_marked.new.numbers
    within (ap (λ (rule : RuleView). rule.number) seen) c.loop-rule.invariant c.in_ok-add_marked.ensures
