use Rattle.std.proofs.Common.{◌*◌, ap, arith}
use Rattle.uncovered_table.proofs.held.tuple_bit.Goals as goal

pub overflow_mul-result : goal.overflow_mul-result
overflow_mul-result c =
    let same = ap (λ d. d * c.in_ok-line.line.step) c.from.ensures in
    omega (arith, same, c.in_ok-line.ensures.within c.args.digit c.requires.digit, c.assert_invariant.ensures.few)

pub overflow_add-result : goal.overflow_add-result
overflow_add-result c =
    let same = ap (λ d. d * c.in_ok-line.line.step) c.from.ensures in
    omega (arith, same, c.in_ok-line.ensures.within c.args.digit c.requires.digit, c.assert_invariant.ensures.few)
