use Rattle.std.proofs.Common.{◌+◌, ◌*◌, get_or, arith}
use Rattle.std.specs.Int.Bits.{and_lt}
use Rattle.uncovered_table.proofs.WordLemmas.{sum-most, sum-word}
use Rattle.uncovered_table.proofs.words.count_common.Goals as goal

pub overflow_add-count : goal.overflow_add-count
overflow_add-count c =
    let next = sum-word c.args.words.now c.args.mask.now c.loop-i.i (and_lt 64 (get_or c.args.words.now c.loop-i.i 0)
    (get_or c.args.mask.now c.loop-i.i 0) (c.type_inv.words c.loop-i.i).fits (c.type_inv.mask c.loop-i.i).fits) in
    let most = sum-most c.args.words.now c.args.mask.now (64 * (c.loop-i.i + 1)) in
    omega (arith, next, most, c.loop-i.invariant)

pub loop-i-preserved : goal.loop-i-preserved
loop-i-preserved c =
    let next = sum-word c.args.words.now c.args.mask.now c.loop-i.i (and_lt 64 (get_or c.args.words.now c.loop-i.i 0)
    (get_or c.args.mask.now c.loop-i.i 0) (c.type_inv.words c.loop-i.i).fits (c.type_inv.mask c.loop-i.i).fits) in
    omega (arith, next, c.loop-i.invariant)
