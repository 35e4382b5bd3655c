use Rattle.std.proofs.Common.{◌≡◌, arith, get_or, rules}
use Rattle.std.proofs.lemmas.Grind.{common_steps}
use Rattle.cov_model.specs.Views.{body_view}
use Rattle.cov_model.proofs.SoundLemmas.{seen_sound}
use Rattle.model_findings.proofs.SoundTerms.{listed_sound}
use Rattle.model_findings.proofs.rules.Rules.add_terms.Goals as goal

pub add_each_unknown-requires-clause-sound : goal.add_each_unknown-requires-clause-sound
add_each_unknown-requires-clause-sound g c =
    let m = c.args.self.now.model.now in
    let rule = c.index-as_slice-i.result in
    let is : rule ≡ get_or c.as_slice.result.now c.args.i rule = first_of (search rules, grind (arith, common_steps)) in
    listed_sound m.params (body_view rule.body) c.in_ok-terms.terms.items c.as_slice-2.result.now
    (seen_sound m c.rules.result.now c.as_slice.result.now c.args.i rule rule c.assert_invariant.ensures c.rules.ensures.value c.as_slice.ensures c.requires.within is)
    c.in_ok-terms.ensures c.as_slice-2.ensures.value

pub add_each_constant-requires-clause-sound : goal.add_each_constant-requires-clause-sound
add_each_constant-requires-clause-sound g c =
    let m = c.args.self.now.model.now in
    let rule = c.index-as_slice-i.result in
    let is : rule ≡ get_or c.as_slice.result.now c.args.i rule = first_of (search rules, grind (arith, common_steps)) in
    listed_sound m.params (body_view rule.body) c.in_ok-terms.terms.items c.as_slice-3.result.now
    (seen_sound m c.rules.result.now c.as_slice.result.now c.args.i rule rule c.assert_invariant.ensures c.rules.ensures.value c.as_slice.ensures c.requires.within is)
    c.in_ok-terms.ensures c.as_slice-3.ensures.value
