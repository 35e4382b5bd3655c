use Rattle.std.proofs.Common.{◌<◌, length, set, ap, ◌∙◌, arith}
use Rattle.std.proofs.lemmas.List.{length-map, get_or_default}
use Rattle.row_text.proofs.Turning.{turn_taken, seen_at}
use Rattle.row_text.proofs.next_names.NextNames.take.Goals as goal

pub returns-clause-next : goal.returns-clause-next
returns-clause-next c =
    let places = c.self.inside.places.items in
    let inside : c.args.place < length places = omega (arith, ap length c.self.view_is, length-map places (λ next. next.items)) in
    let list = c.index_mut.result.now in
    let there : c.args.value < length list.items =
    omega (arith, ap length (seen_at (λ next. next.items) places c.args.self.now c.args.place list c.self.view_is inside c.index_mut.ensures.value)) in
    turn_taken (λ next. next.items) places c.args.self.now c.args.place c.args.value c.index_mut-next.result.now c.args.count list _
    c.self.view_is inside c.index_mut.ensures.value
    (c.index_mut-next.ensures.value ∙ get_or_default list.items c.args.value c.index_mut-next.result.now 0 there) (ap (set list.items c.args.value) c.name_behind.ensures.value)
