use Rattle.std.proofs.Common.{arith, ap, pos}
use Rattle.std.specs.Int.{w128}
use Rattle.std.proofs.lemmas.Int.{ints, to_z_pos}
use Rattle.value_text.proofs.NumberLemmas.{scales}
use Rattle.value_text.proofs.fixed.scaled_size.Goals as goal

pub overflow_mul-result : goal.overflow_mul-result
overflow_mul-result c =
    let sizes = scales c.args.whole.now c.args.decimals.now c.requires.whole c.requires.whole_width c.requires.decimals c.requires.decimals_width in
    rw c.value_of.ensures.value (omega arith)

pub overflow_add-result : goal.overflow_add-result
overflow_add-result c =
    let sizes = scales c.args.whole.now c.args.decimals.now c.requires.whole c.requires.whole_width c.requires.decimals c.requires.decimals_width in
    rw (c.value_of.ensures.value, c.value_of-2.ensures.value, c.pow-decimal_unit.ensures) (omega arith)

pub overflow_cast-result : goal.overflow_cast-result
overflow_cast-result c =
    let sizes = scales c.args.whole.now c.args.decimals.now c.requires.whole c.requires.whole_width c.requires.decimals c.requires.decimals_width in
    rw (c.value_of.ensures.value, c.value_of-2.ensures.value, c.pow-decimal_unit.ensures) (omega (arith, ints))

pub returns : goal.returns
returns c =
    let sizes = scales c.args.whole.now c.args.decimals.now c.requires.whole c.requires.whole_width c.requires.decimals c.requires.decimals_width in
    rw (c.value_of.ensures.value, c.value_of-2.ensures.value, c.pow-decimal_unit.ensures, to_z_pos w128 _ sizes.fits) (ap pos sizes.size)
