use Rattle.std.proofs.Common.{◌≡◌, ◌+◌, [], ◌∷◌, length, ◌∙◌, ap, arith}
use Rattle.definitions.specs.believed.Demand.{demanded_sets}
use Rattle.shared_marks.specs.Served.{base_of, served_between}
use Rattle.shared_marks.proofs.AddingLemmas.{marks_none, marks_same, marks_then}
use Rattle.shared_marks.proofs.PlaceLemmas.{base_end, base_more, between_more, between_none}
use Rattle.shared_marks.proofs.served.mark_sets.Goals as goal

pub loop-set-init : goal.loop-set-init
loop-set-init c = (omega arith, marks_none _ _ (between_none c.args.model.now (c.args.cells.now ∷ []) (base_of c.args.model.now c.args.from)))

pub loop-set-preserved : goal.loop-set-preserved
loop-set-preserved c =
    let m = c.args.model.now in
    let i = c.loop-set.set in
    let sets : c.set_count-set-end.result ≡ length (demanded_sets m) = c.set_count-set-end.ensures.value ∙ ap (λ p. length p.sets) c.requires.plan in
    let next = base_more m i (omega (arith, sets)) in (
      omega (arith, c.loop-set.invariant.0, next),
      marks_then _ _ _ _ _ _ c.loop-set.invariant.1 c.mark_set.ensures (λ place.
          between_more m (c.args.cells.now ∷ []) (base_of m c.args.from) (base_of m i) (base_of m (i + 1)) place c.loop-set.invariant.0
          (omega (arith, next))),
    )

pub returns : goal.returns
returns c =
    let m = c.args.model.now in
    let i = c.loop-set.set in
    let sets : c.set_count-set-end.result ≡ length (demanded_sets m) = c.set_count-set-end.ensures.value ∙ ap (λ p. length p.sets) c.requires.plan in
    marks_same _ _ _ _ c.loop-set.invariant.1
    (λ place. ap (λ end. served_between m (c.args.cells.now ∷ []) (base_of m c.args.from) end place) (base_end m i (omega (arith, sets))))
