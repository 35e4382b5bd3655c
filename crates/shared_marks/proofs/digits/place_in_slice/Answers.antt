use Rattle.std.proofs.Common.{arith, refl}
use Rattle.shared_marks.specs.Digits.{own_slice}
use Rattle.shared_marks.proofs.DigitLemmas.{digit_joined, placing_end}
use Rattle.shared_marks.proofs.digits.place_in_slice.Goals as goal

pub overflow_mul-place : goal.overflow_mul-place
overflow_mul-place c =
    let next = digit_joined c.args.model.now c.args.cells.now c.args.members.now c.args.digits.now _ c.loop-p.p-index _ c.loop-p.place c.from.result _ c.from.ensures refl
    c.requires.exist c.requires.digits c.loop-p-test.true c.loop-p.invariant c.requires.some c.requires.few in
    omega (arith, next.few)

pub overflow_add-place : goal.overflow_add-place
overflow_add-place c =
    let next = digit_joined c.args.model.now c.args.cells.now c.args.members.now c.args.digits.now _ c.loop-p.p-index _ c.loop-p.place c.from.result
    c.from-in-loop-p.result c.from.ensures c.from-in-loop-p.ensures c.requires.exist c.requires.digits c.loop-p-test.true c.loop-p.invariant c.requires.some
    c.requires.few in
    omega (arith, next.few)

pub loop-p-preserved : goal.loop-p-preserved
loop-p-preserved c =
    (digit_joined c.args.model.now c.args.cells.now c.args.members.now c.args.digits.now _ c.loop-p.p-index _ c.loop-p.place c.from.result
    c.from-in-loop-p.result c.from.ensures c.from-in-loop-p.ensures c.requires.exist c.requires.digits c.loop-p-test.true c.loop-p.invariant c.requires.some
    c.requires.few).placing

pub returns : goal.returns
returns c =
    placing_end (own_slice c.args.model.now c.args.cells.now) c.args.cells.now c.args.members.now c.loop-p.p-index c.loop-p.place c.loop-p-test.false c.loop-p.invariant
