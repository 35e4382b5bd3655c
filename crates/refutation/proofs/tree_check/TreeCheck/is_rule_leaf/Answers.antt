use Rattle.std.proofs.Common.{◌∙◌, sym, ap, subst}
use Rattle.cov_model.specs.believed.Sound.{IsSound}
use Rattle.refutation.specs.Checking.{has_rule}
use Rattle.refutation.proofs.LeafLemmas.{has_rule_range, rule_leaf-none, rule_leaf-some}
use Rattle.refutation.proofs.tree_check.TreeCheck.is_rule_leaf.Goals as goal

pub is_no-requires-clause-first : goal.is_no-requires-clause-first
is_no-requires-clause-first c =
    (has_rule_range c.args.self.now.model c.args.rule (subst IsSound c.model.ensures c.has_rule.ensures.sound)
    (ap (λ m. has_rule m c.args.rule) (sym c.model.ensures) ∙ sym c.has_rule.ensures.value ∙ c.if-has_rule.true)).0

pub is_no-requires-clause-last : goal.is_no-requires-clause-last
is_no-requires-clause-last c =
    (has_rule_range c.args.self.now.model c.args.rule (subst IsSound c.model.ensures c.has_rule.ensures.sound)
    (ap (λ m. has_rule m c.args.rule) (sym c.model.ensures) ∙ sym c.has_rule.ensures.value ∙ c.if-has_rule.true)).1

pub returns-then-has_rule : goal.returns-then-has_rule
returns-then-has_rule c =
    c.is_no.ensures ∙ sym (rule_leaf-some c.args.self.now.model c.args.path.now c.args.rule (subst IsSound c.model.ensures c.has_rule.ensures.sound)
    (ap (λ m. has_rule m c.args.rule) (sym c.model.ensures) ∙ sym c.has_rule.ensures.value ∙ c.if-has_rule.true))

pub returns-else-has_rule : goal.returns-else-has_rule
returns-else-has_rule c =
    c.if-has_rule.false ∙ sym (rule_leaf-none c.args.self.now.model c.args.path.now c.args.rule
    (ap (λ m. has_rule m c.args.rule) (sym c.model.ensures) ∙ sym c.has_rule.ensures.value ∙ c.if-has_rule.false))
