use Rattle.std.proofs.Common.{◌≡◌, ◌++◌, ◌∷◌, [], ◌∙◌, ap, sym, rules, append_assoc}
use Rattle.seq_check.specs.believed.Orders.{lengthened}
use Rattle.seq_check.proofs.ListSteps.{lengthened_skips, lengthened_takes}
use Rattle.seq_check.proofs.lists.add_lengthened.Goals as goal

pub loop-event-preserved-then-contains : goal.loop-event-preserved-then-contains
loop-event-preserved-then-contains c =
    c.loop-event.invariant
    ∙ ap (λ lists. c.args.into.now ++ lists) (sym (lengthened_skips c.loop-event.event-counter c.args.front.now (sym c.contains.ensures.value ∙ c.if-contains.true)))

pub loop-event-preserved : goal.loop-event-preserved
loop-event-preserved c =
    let front = c.args.front.now in
    let event = c.loop-event.event-counter in
    let pushed : c.push.new.self ≡ c.loop-event.into ++ (front ++ event ∷ []) ∷ [] = search rules in
    pushed ∙ ap (λ lists. lists ++ (front ++ event ∷ []) ∷ []) c.loop-event.invariant
    ∙ append_assoc c.args.into.now (lengthened event front) ((front ++ event ∷ []) ∷ [])
    ∙ ap (λ lists. c.args.into.now ++ lists) (sym (lengthened_takes event front (sym c.contains.ensures.value ∙ c.if-contains.false)))
