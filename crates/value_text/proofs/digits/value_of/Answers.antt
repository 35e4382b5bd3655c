use Rattle.std.proofs.Common.{arith}
use Rattle.value_text.proofs.DigitLemmas.{grows, whole_value}
use Rattle.value_text.proofs.digits.value_of.Goals as goal

pub overflow_mul-value : goal.overflow_mul-value
overflow_mul-value c =
    let step = grows c.args.digits.now c.loop-digit.digit-index c.loop-digit.value c.requires.digits c.requires.few c.loop-digit-test.true c.loop-digit.invariant in
    omega (arith, step)

pub overflow_add-value : goal.overflow_add-value
overflow_add-value c =
    let step = grows c.args.digits.now c.loop-digit.digit-index c.loop-digit.value c.requires.digits c.requires.few c.loop-digit-test.true c.loop-digit.invariant in
    omega arith

pub loop-digit-preserved : goal.loop-digit-preserved
loop-digit-preserved c =
    let step = grows c.args.digits.now c.loop-digit.digit-index c.loop-digit.value c.requires.digits c.requires.few c.loop-digit-test.true c.loop-digit.invariant in
    omega arith

pub returns-clause-small : goal.returns-clause-small
returns-clause-small c = whole_value c.args.digits.now c.loop-digit.digit-index c.loop-digit.value c.requires.digits c.loop-digit-test.false c.loop-digit.invariant
