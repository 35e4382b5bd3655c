use Rattle.std.proofs.Common.{◌≡◌, ◌∙◌, ◌||◌, ◌&&◌, ap, sym, eqb, arith}
use Rattle.seq_check.specs.EventSets.{in_set, in_set_at}
use Rattle.seq_cover.proofs.WayLemmas.{none_added, not_yet, some_added}
use Rattle.seq_cover.proofs.ways.add_way.Goals as goal

pub loop-event-preserved-then-not-reaches : goal.loop-event-preserved-then-not-reaches
loop-event-preserved-then-not-reaches c = λ first second below.
    let old = c.args.ways.now in
    let event = c.loop-event.event in
    let from = c.args.from in
    let same : in_set_at c.loop-event.ways event from ≡ in_set_at old event from =
    not_yet _ _ ((eqb event from || in_set_at old event from) && in_set c.with-through.result from) event (c.loop-event.invariant event from (omega arith)) in
    c.loop-event.invariant first second below
    ∙ none_added (in_set_at old first second) (eqb first from || in_set_at old first from) (in_set c.with-through.result second) first event
    (λ e. ap (λ k. eqb k from || in_set_at old k from) e ∙ ap (λ t. eqb event from || t) (sym same) ∙ sym c.reaches.ensures ∙ c.if-not-reaches.true)

pub loop-event-preserved : goal.loop-event-preserved
loop-event-preserved c = λ first second below.
    let old = c.args.ways.now in
    let event = c.loop-event.event in
    let from = c.args.from in
    let same : in_set_at c.loop-event.ways event from ≡ in_set_at old event from =
    not_yet _ _ ((eqb event from || in_set_at old event from) && in_set c.with-through.result from) event (c.loop-event.invariant event from (omega arith)) in
    c.add_all.ensures first second ∙ ap (λ t. t || (eqb event first && in_set c.with-through.result second)) (c.loop-event.invariant first second below)
    ∙ some_added (in_set_at old first second) (eqb first from || in_set_at old first from) (in_set c.with-through.result second) first event
    (λ e. ap (λ k. eqb k from || in_set_at old k from) e ∙ ap (λ t. eqb event from || t) (sym same) ∙ sym c.reaches.ensures ∙ c.if-not-reaches.false)
