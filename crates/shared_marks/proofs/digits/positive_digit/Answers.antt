use Rattle.std.proofs.Common.{◌∙◌, ap, arith, length, get_or, not, List}
use Rattle.std.specs.List.{filter, range_with_len}
use Rattle.cov_model.specs.believed.Meaning.{no_value}
use Rattle.cov_model.specs.declared.parameter.Value.{Value}
use Rattle.shared_marks.proofs.DigitLemmas.{digit_counted, digit_is_value}
use Rattle.shared_marks.proofs.digits.positive_digit.Goals as goal

pub returns-then-radix-values-clause-place : goal.returns-then-radix-values-clause-place
returns-then-radix-values-clause-place c =
    let radix = c.radix_of-radix.ensures.value in
    let long = ap length c.values_of-values.ensures in
    digit_is_value c.args.model.now c.args.p c.args.v c.requires.value c.requires.sign (omega (arith, radix, long, c.if-radix-values.true))

pub returns-then-radix-values-clause-radix : goal.returns-then-radix-values-clause-radix
returns-then-radix-values-clause-radix c = c.radix_of-radix.ensures.value

pub returns-else-radix-values-clause-place : goal.returns-else-radix-values-clause-place
returns-else-radix-values-clause-place c =
    c.count_positive-place.ensures
    ∙ ap (λ (values : List Value). length (filter (λ w. not (get_or values w no_value).negative) (range_with_len 0 c.args.v))) c.values_of-values.ensures
    ∙ digit_counted c.args.model.now c.args.p c.args.v c.requires.value c.requires.sign

pub returns-else-radix-values-clause-radix : goal.returns-else-radix-values-clause-radix
returns-else-radix-values-clause-radix c = c.radix_of-radix.ensures.value
