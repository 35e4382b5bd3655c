use Rattle.std.proofs.Common.{[], get_or, refl}
use Rattle.seq_cover.proofs.TextLemmas.{joined_more}
use Rattle.seq_cover.proofs.text.add_names.Goals as goal

pub loop-place-preserved : goal.loop-place-preserved
loop-place-preserved c =
    let e = c.args.events.now in
    let numbers = c.args.numbers.now in
    joined_more c.args.mark (λ event. get_or e.names event []) numbers c.loop-place.place 0 (get_or numbers c.loop-place.place 0)
    c.args.text.now.items c.loop-place.text.items c.add_part.new.text.items c.loop-place-test.true refl c.loop-place.invariant c.in_ok-add_part.ensures
