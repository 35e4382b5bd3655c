use Rattle.std.proofs.Common.{◌∷◌, ◌++◌, [], ◌∙◌, fold, ap, sym}
use Rattle.std.proofs.lemmas.List.Sums.{fold_push}
use Rattle.seq_check.proofs.ListSteps.{lengthened_skips, lengthened_takes}
use Rattle.seq_check.specs.believed.Orders.{lengthened}
use Rattle.seq_cover.specs.believed.OrderGrowth.{settled}
use Rattle.seq_cover.proofs.grow.Growth.settle_all.Goals as goal

pub loop-last-preserved-then-contains : goal.loop-last-preserved-then-contains
loop-last-preserved-then-contains c = (
  c.loop-last.invariant.0,
  c.loop-last.invariant.1
      ∙ ap (fold (settled c.args.events.now) c.args.self.now.suite) (sym (lengthened_skips c.loop-last.last-counter c.args.front.now (sym c.contains.ensures.value ∙ c.if-contains.true))),
)

pub loop-last-preserved : goal.loop-last-preserved
loop-last-preserved c =
    let e = c.args.events.now in
    let front = c.args.front.now in
    let last = c.loop-last.last-counter in (
      c.in_ok-settle.ensures.left,
      c.in_ok-settle.ensures.suite
          ∙ ap (λ s. settled e s (front ++ last ∷ [])) c.loop-last.invariant.1
          ∙ sym (fold_push (settled e) c.args.self.now.suite (lengthened last front) (front ++ last ∷ []))
          ∙ ap (fold (settled e) c.args.self.now.suite) (sym (lengthened_takes last front (sym c.contains.ensures.value ∙ c.if-contains.false))),
    )
