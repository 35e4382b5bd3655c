use Rattle.std.proofs.Common.{length, ◌∙◌, sym, ap}
use Rattle.std.proofs.lemmas.List.{length-map}
use Rattle.cov_model.specs.Views.{rule_view}
use Rattle.refutation.proofs.LeafLemmas.{has_rule_zero, has_rule_tested}
use Rattle.refutation.proofs.tree_check.has_rule.Goals as goal

pub returns-then-rule-ne0-clause-value : goal.returns-then-rule-ne0-clause-value
returns-then-rule-ne0-clause-value c =
    has_rule_tested c.args.model.now c.args.rule c.len-count.result c.rules.ensures.sound
    (c.len-count.ensures ∙ sym (length-map c.rules.result.now rule_view) ∙ ap length c.rules.ensures.value) c.if-rule-ne0.true

pub returns-else-rule-ne0-clause-value : goal.returns-else-rule-ne0-clause-value
returns-else-rule-ne0-clause-value c = has_rule_zero c.args.model.now c.args.rule c.rules.ensures.sound c.if-rule-ne0.false
