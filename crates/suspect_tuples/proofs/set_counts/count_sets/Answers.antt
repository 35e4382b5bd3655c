use Rattle.std.proofs.Common.{◌≡◌, ◌+◌, ◌∙◌, ap, map, length, arith, rules}
use Rattle.std.specs.List.{range_with_len}
use Rattle.suspect_tuples.specs.SetCounts.{next_count}
use Rattle.std.specs.Prelude.{replicate}
use Rattle.suspect_tuples.proofs.SetCountLemmas.{counts_begin, counts_more}
use Rattle.suspect_tuples.proofs.set_counts.count_sets.Goals as goal

pub loop-counted-init : goal.loop-counted-init
loop-counted-init c =
    let made : c.in_ok-row.row.items ≡ replicate (c.args.most + 1) 0 = search rules in
    (counts_begin c.args.most c.in_ok-row.row.items made, omega arith)

pub loop-counted-preserved : goal.loop-counted-preserved
loop-counted-preserved c = (
  counts_more c.args.most c.loop-counted.counted c.loop-counted.row.items c.in_ok-row-2.row.items c.loop-counted.invariant.0
      (c.in_ok-row-2.ensures ∙ ap (λ row. map (next_count row) (range_with_len 0 (length row))) c.deref.ensures.value),
  omega (arith, c.loop-counted-test.true),
)
