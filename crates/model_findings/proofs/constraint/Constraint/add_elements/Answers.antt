use Rattle.std.proofs.Common.{◌≡◌, ◌<◌, ◌∙◌, arith, get_or, length, map, rules}
use Rattle.std.proofs.lemmas.Grind.{common_steps}
use Rattle.model_findings.specs.believed.Findings.{element_facts}
use Rattle.model_findings.specs.Findings.{fact_of}
use Rattle.model_findings.proofs.Telling.{next_told}
use Rattle.model_findings.proofs.constraint.Constraint.add_elements.Goals as goal

pub loop-i-preserved : goal.loop-i-preserved
loop-i-preserved c =
    let within : c.loop-i.i < length c.args.literals.now = first_of (search rules, grind (arith, common_steps)) in
    let is : get_or c.args.literals.now c.loop-i.i c.index-literals-i.result ≡ c.index-literals-i.result = first_of (search rules, grind (arith, common_steps)) in (
      c.in_ok-add_element.ensures.room ∙ c.loop-i.invariant.0,
      c.in_ok-add_element.ensures.explained,
      next_told (element_facts c.args.self.now.model.now c.args.self.now.number c.args.place c.args.p) c.args.literals.now c.loop-i.i c.index-literals-i.result
          (map fact_of c.args.list.now) (map fact_of c.loop-i.list) (map fact_of c.add_element.new.list) within is c.loop-i.invariant.2 c.in_ok-add_element.ensures.facts,
    )
