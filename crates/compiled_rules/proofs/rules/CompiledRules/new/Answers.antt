use Rattle.std.proofs.Common.{◌≡◌, ◌+◌, ◌-◌, ◌<◌, ◌∙◌, ap, length, get_or, arith}
use Rattle.std.proofs.lemmas.Grind.{common_steps}
use Rattle.cov_model.specs.Sound.{no_rule}
use Rattle.cov_model.proofs.SoundLemmas.{rule_seen, seen_sound}
use Rattle.compiled_rules.proofs.ListLemmas.{bodies_more}
use Rattle.compiled_rules.proofs.rules.CompiledRules.new.Goals as goal

pub compile_body-requires-clause-sound : goal.compile_body-requires-clause-sound
compile_body-requires-clause-sound c =
    let within : c.loop-rule.rule-index < length c.args.model.now.rules = grind (arith, common_steps, ap length c.rules.ensures.value) in
    seen_sound c.args.model.now c.rules.result.now c.as_slice-rule-items.result.now c.loop-rule.rule-index c.rule-item.result c.rule-item.result
    c.rules.ensures.sound
    c.rules.ensures.value c.as_slice-rule-items.ensures within c.rule-item.is

pub loop-rule-preserved : goal.loop-rule-preserved
loop-rule-preserved c =
    let within : c.loop-rule.rule-index < length c.args.model.now.rules = grind (arith, common_steps, ap length c.rules.ensures.value) in
    let seen = rule_seen c.args.model.now.rules c.rules.result.now c.as_slice-rule-items.result.now c.loop-rule.rule-index c.rule-item.result
    c.rule-item.result no_rule
    c.rules.ensures.value c.as_slice-rule-items.ensures within c.rule-item.is in
    let place : c.loop-rule.rule-index ≡ c.loop-rule.rule-index + 1 - 1 = omega arith in
    record {
      fits = c.in_ok-code.ensures.fits;
      codes = bodies_more c.args.model.now c.loop-rule.table c.compile_body.new.table c.loop-rule.rule-index _ c.loop-rule.bodies c.push.new.self
          c.in_ok-code.code
          (ap (λ rule. rule.body) (seen ∙ ap (λ i. get_or c.args.model.now.rules i no_rule) place)) c.loop-rule.invariant.codes c.in_ok-code.ensures.grows
          c.in_ok-code.ensures.code c.in_ok-push.ensures.ok;
    }
