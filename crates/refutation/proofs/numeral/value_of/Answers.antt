use Rattle.std.proofs.Common.{arith}
use Rattle.refutation.proofs.ReadingLemmas.{digit_is}
use Rattle.refutation.proofs.numeral.value_of.Goals as goal

pub returns-then-value-from : goal.returns-then-value-from
returns-then-value-from c =
    let step = digit_is c.args.digits.now c.loop-digit.digit-index c.loop-digit.value c.requires c.loop-digit-test.true c.loop-digit.invariant.value in
    omega arith

pub loop-digit-preserved : goal.loop-digit-preserved
loop-digit-preserved c =
    let step = digit_is c.args.digits.now c.loop-digit.digit-index c.loop-digit.value c.requires c.loop-digit-test.true c.loop-digit.invariant.value in
    record { value = omega arith; small = omega arith }
