use Rattle.std.proofs.Common.{◌≡◌, ◌<◌, ◌∙◌, Bor, arith, get_or, length, map, rules}
use Rattle.std.proofs.lemmas.Grind.{common_steps}
use Rattle.cov_model.specs.declared.constraint.Term.{Term}
use Rattle.cov_model.specs.believed.Sound.{IsSoundTerm}
use Rattle.model_findings.specs.believed.Findings.{unknown_facts}
use Rattle.model_findings.specs.Findings.{fact_of}
use Rattle.model_findings.proofs.Telling.{mapped_at, next_mapped}
use Rattle.model_findings.proofs.constraint.Constraint.add_each_unknown.Goals as goal

pub add_unknown-requires-clause-sound : goal.add_unknown-requires-clause-sound
add_unknown-requires-clause-sound c =
    let within : c.loop-i.i < length c.args.terms.now = first_of (search rules, grind (arith, common_steps)) in
    let is : get_or c.args.terms.now c.loop-i.i c.index-terms-i.result ≡ c.index-terms-i.result = first_of (search rules, grind (arith, common_steps)) in
    mapped_at (IsSoundTerm c.args.self.now.model.now.params) (λ (t : Bor Term). t.now) c.args.terms.now c.loop-i.i c.index-terms-i.result c.requires.sound within is

pub loop-i-preserved : goal.loop-i-preserved
loop-i-preserved c =
    let within : c.loop-i.i < length c.args.terms.now = first_of (search rules, grind (arith, common_steps)) in
    let is : get_or c.args.terms.now c.loop-i.i c.index-terms-i.result ≡ c.index-terms-i.result = first_of (search rules, grind (arith, common_steps)) in (
      c.in_ok-add_unknown.ensures.room ∙ c.loop-i.invariant.0,
      c.in_ok-add_unknown.ensures.explained,
      next_mapped (λ (t : Bor Term). t.now) (unknown_facts c.args.self.now.model.now c.args.self.now.number) c.args.terms.now c.loop-i.i c.index-terms-i.result
          (map fact_of c.args.list.now) (map fact_of c.loop-i.list) (map fact_of c.add_unknown.new.list) within is c.loop-i.invariant.2 c.in_ok-add_unknown.ensures.facts,
    )
