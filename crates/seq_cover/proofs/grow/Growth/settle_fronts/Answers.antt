use Rattle.std.proofs.Common.{◌≡◌, ◌+◌, ◌-◌, ◌∙◌, fold, length, ap, sym, true, arith, inl, inr, get_or}
use Rattle.seq_check.proofs.FindLemmas.{list_is}
use Rattle.seq_check.specs.believed.Orders.{lengthened}
use Rattle.seq_cover.specs.believed.OrderGrowth.{settled}
use Rattle.seq_cover.proofs.GrowLemmas.{fold_lists}
use Rattle.seq_cover.proofs.grow.Growth.settle_fronts.Goals as goal

pub settle_all-requires-clause-front : goal.settle_all-requires-clause-front
settle_all-requires-clause-front c =
    let e = c.args.events.now in
    let one_less : e.len - 1 + 1 ≡ e.len = elim c.assert_invariant.ensures.len [ inl two ↦ omega arith | inr three ↦ omega arith ] in
    list_is (λ s. true) (length e.names) (e.len - 1) e.len c.args.fronts.now c.requires.fronts one_less
    c.loop-front.front-index c.front-item.result c.as_slice.result.now c.loop-front-test.true (c.as_slice.ensures ∙ c.front-item.is)

pub loop-front-preserved : goal.loop-front-preserved
loop-front-preserved c =
    let e = c.args.events.now in
    let suite = c.args.self.now.suite in
    let g = lengthened (length e.names) in (
      c.in_ok-settle_all.ensures.left,
      c.in_ok-settle_all.ensures.suite
          ∙ ap (λ l. fold (settled e) c.loop-front.self.suite (g l)) (c.as_slice.ensures ∙ c.front-item.is)
          ∙ ap (λ s. fold (settled e) s (g (get_or c.args.fronts.now c.loop-front.front-index c.front-item.result))) c.loop-front.invariant.1
          ∙ sym (fold_lists (settled e) suite g c.args.fronts.now c.loop-front.front-index c.front-item.result c.loop-front-test.true),
    )
