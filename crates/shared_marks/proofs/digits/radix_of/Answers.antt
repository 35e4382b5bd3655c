use Rattle.std.proofs.Common.{◌∙◌, ap, arith, length}
use Rattle.std.proofs.lemmas.List.FromFn.{length-map-range_with_len}
use Rattle.cov_model.specs.believed.Slices.{positive_values}
use Rattle.shared_marks.proofs.DigitLemmas.{positives_few, radix_is}
use Rattle.shared_marks.proofs.digits.radix_of.Goals as goal

pub value_count-requires : goal.value_count-requires
value_count-requires c =
    let long = ap (λ plan. length plan.positives) c.requires.plan ∙ length-map-range_with_len (positive_values c.args.model.now) 0 (length c.args.model.now.params) in
    omega (arith, long, c.requires.param)

pub overflow_cast-result : goal.overflow_cast-result
overflow_cast-result c =
    let radix = radix_is c.args.model.now c.args.plan.now c.args.p c.value_count.result c.requires.plan c.requires.param c.value_count.ensures in
    omega (arith, radix, positives_few c.args.model.now c.args.p c.assert_invariant.ensures c.requires.param)

pub returns-clause-value : goal.returns-clause-value
returns-clause-value c = radix_is c.args.model.now c.args.plan.now c.args.p c.value_count.result c.requires.plan c.requires.param c.value_count.ensures

pub returns-clause-few : goal.returns-clause-few
returns-clause-few c =
    let radix = radix_is c.args.model.now c.args.plan.now c.args.p c.value_count.result c.requires.plan c.requires.param c.value_count.ensures in
    omega (arith, radix, positives_few c.args.model.now c.args.p c.assert_invariant.ensures c.requires.param)
