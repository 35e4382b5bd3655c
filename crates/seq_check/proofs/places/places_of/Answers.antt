use Rattle.std.proofs.Common.{◌≡◌, ◌∙◌, ◌++◌, ◌∷◌, [], ap, sym, rules}
use Rattle.seq_check.specs.EventSets.{places}
use Rattle.seq_check.specs.believed.Orders.{place}
use Rattle.seq_check.proofs.PlaceLemmas.{mapped_more}
use Rattle.seq_check.proofs.places.places_of.Goals as goal

pub loop-event-preserved : goal.loop-event-preserved
loop-event-preserved c =
    let pushed : c.push.new.self.items ≡ c.loop-event.places.items ++ c.place_of.result ∷ [] = search rules in
    pushed ∙ ap (λ at. at ++ c.place_of.result ∷ []) c.loop-event.invariant ∙ ap (λ n. places c.loop-event.event c.args.order.now ++ n ∷ []) c.place_of.ensures
    ∙ sym (mapped_more (place c.args.order.now) c.loop-event.event)
