use Rattle.std.proofs.Common.{arith, length}
use Rattle.definitions.specs.believed.Demand.{demanded_sets}
use Rattle.uncovered_table.proofs.BitLemmas.{bits_before}
use Rattle.uncovered_table.proofs.prepared.has_open.Goals as goal

pub overflow_add-block : goal.overflow_add-block
overflow_add-block c =
    let v = c.args.sets.now in
    let end = bits_before v.model v.slice c.args.set (length (demanded_sets v.model)) c.requires.set in
    omega (arith, end, c.block-block.ensures.first, c.block-block.ensures.count, c.assert_invariant.ensures.few)

pub next_set-requires-clause-within : goal.next_set-requires-clause-within
next_set-requires-clause-within c =
    let v = c.args.sets.now in
    let end = bits_before v.model v.slice c.args.set (length (demanded_sets v.model)) c.requires.set in
    omega (arith, end, c.block-block.ensures.first, c.block-block.ensures.count, c.requires.bits)
