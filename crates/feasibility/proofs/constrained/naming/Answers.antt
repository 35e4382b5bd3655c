use Rattle.std.proofs.Common.{◌<◌, ◌∙◌, List, length, map, ap, arith}
use Rattle.std.specs.List.{filter}
use Rattle.std.proofs.lemmas.Grind.{common_steps}
use Rattle.std.proofs.lemmas.List.{take_all}
use Rattle.cov_model.specs.declared.constraint.Rule.{Rule}
use Rattle.cov_model.specs.Sound.{no_rule}
use Rattle.cov_model.specs.Views.{body_view}
use Rattle.cov_model.proofs.SoundLemmas.{rule_seen}
use Rattle.definitions.specs.believed.Demand.{is_among}
use Rattle.definitions.specs.believed.Search.{body_params}
use Rattle.feasibility.proofs.Naming.{naming_is}
use Rattle.feasibility.proofs.constrained.naming.Goals as goal

pub overflow_cast-rule : goal.overflow_cast-rule
overflow_cast-rule c =
    let within : c.loop-rule.rule-index < length c.args.model.now.rules = grind (arith, common_steps, ap length c.rules.ensures.value) in
    let seen = rule_seen c.args.model.now.rules c.rules.result.now c.as_slice-rule-items.result.now c.loop-rule.rule-index c.rule-item.result
    c.rule-item.result no_rule
    c.rules.ensures.value c.as_slice-rule-items.ensures within c.rule-item.is in
    omega (
      arith,
      ap (λ rule. rule.number) seen,
      c.rules.ensures.sound.numbered c.loop-rule.rule-index no_rule within,
      c.rules.ensures.sound.few_rules,
      within,
    )

pub returns : goal.returns
returns c =
    c.loop-rule.invariant
    ∙ ap (λ (rules : List Rule). map (λ rule. rule.number) (filter (λ rule. is_among (body_params (body_view rule.body)) c.args.p) rules))
    (take_all c.loop-rule.rule-index c.as_slice-rule-items.result.now (omega arith))
    ∙ naming_is c.args.model.now c.rules.result.now c.as_slice-rule-items.result.now c.args.p c.rules.ensures.value c.as_slice-rule-items.ensures
