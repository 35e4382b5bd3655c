use Rattle.std.proofs.Common.{◌≡◌, ◌<◌, map, length, get_or, set, sym, ap, ◌∙◌, arith}
use Rattle.std.specs.Prelude.{replicate}
use Rattle.std.proofs.lemmas.List.{map-set, get_or-map, length-map}
use Rattle.std.proofs.lemmas.List.Edits.{map_over_more}
use Rattle.row_text.proofs.next_names.NextNames.clear.Goals as goal

pub loop-next-preserved : goal.loop-next-preserved
loop-next-preserved c =
    let items = c.loop-next.next-items in
    let at = c.loop-next.next-index in
    let numbers = c.next-item.result.items in
    let count = ap length c.deref_mut-next-items.ensures.value in
    let inside : at < length c.args.self.now = omega (arith, count, ap length c.self.view_is, length-map c.self.inside.places.items (λ next. next.items)) in
    let known : at < length items = omega arith in
    let item : numbers ≡ get_or (map (λ next. next.items) items) at numbers = sym
    (get_or-map (λ next. next.items) items at c.next-item.result numbers known ∙ ap (λ next. next.items) (sym c.next-item.is)) in
    map-set (λ next. next.items) items at c.clear_all.new.next
    ∙ ap (set (map (λ next. next.items) items) at) (c.clear_all.ensures ∙ ap (λ next. replicate (length next.items) 0) (sym c.next-item.is))
    ∙ map_over_more (λ next. replicate (length next) 0) c.args.self.now (map (λ next. next.items) items) at numbers inside c.loop-next.invariant item
