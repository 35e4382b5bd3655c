use Rattle.std.proofs.Common.{◌<◌, ◌∙◌, arith, ap, length, map}
use Rattle.std.proofs.lemmas.Grind.{common_steps}
use Rattle.cov_model.specs.Sound.{no_rule}
use Rattle.model_findings.specs.Findings.{fact_of}
use Rattle.model_findings.specs.believed.Findings.{rule_facts}
use Rattle.model_findings.proofs.Telling.{next_flat}
use Rattle.model_findings.proofs.rules.Rules.add_rules.Goals as goal

pub loop-i-preserved : goal.loop-i-preserved
loop-i-preserved g c =
    let within : c.loop-i.i < length c.args.self.now.model.now.rules = first_of (cc, grind (arith, common_steps, ap length c.rules.ensures.value)) in (
      c.in_ok-add_rule.ensures.room ∙ c.loop-i.invariant.0,
      c.in_ok-add_rule.ensures.explained,
      next_flat (rule_facts c.args.self.now.model.now c.args.self.now.all) c.args.self.now.model.now.rules c.loop-i.i no_rule
          (map fact_of c.args.list.now) (map fact_of c.loop-i.list) (map fact_of c.add_rule.new.list) within c.loop-i.invariant.2 c.in_ok-add_rule.ensures.facts,
    )
