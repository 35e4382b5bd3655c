use Rattle.std.proofs.Common.{refl, get_or, ◌-◌, arith, length, map, ◌∙◌, ap}
use Rattle.std.specs.List.{range_with_len}
use Rattle.tuple_index.specs.Counts.{next_entry}
use Rattle.tuple_index.proofs.RowLemmas.{row_step}
use Rattle.tuple_index.proofs.count.sum_of_products.Goals as goal

pub loop-left-preserved : goal.loop-left-preserved
loop-left-preserved c = (
  omega (arith, c.loop-left.invariant.0),
  row_step c.args.k c.loop-left.left c.args.counts.now c.loop-left.row.items c.in_ok-row-2.row.items (get_or c.args.counts.now (c.loop-left.left - 1) 0)
      c.loop-left-test.true c.loop-left.invariant.0 c.loop-left.invariant.1
      refl (c.in_ok-row-2.ensures ∙ ap (λ r. map (next_entry (get_or c.args.counts.now (c.loop-left.left - 1) 0) r) (range_with_len 0 (length r)))
      c.deref.ensures.value),
)
