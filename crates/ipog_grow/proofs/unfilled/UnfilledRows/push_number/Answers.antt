use Rattle.std.proofs.Common.{◌≡◌, ◌<◌, ◌∙◌, ◌++◌, ◌∷◌, ℕ, List, Option, [], length, map, get_or, set, IfSome, ap, sym, subst, arith}
use Rattle.std.proofs.lemmas.List.{get_or-map, length-map, map-set}
use Rattle.ipog_grow.specs.UnfilledRows.{with_number, UnfilledLists}
use Rattle.ipog_grow.proofs.unfilled.UnfilledRows.push_number.Goals as goal

pub returns-in_ok-push-in-Some : goal.returns-in_ok-push-in-Some
returns-in_ok-push-in-Some c =
    let lists = c.self.inside.by_value.items in
    let v = c.in-Some.v in
    let seen = map (λ list. list.items) lists in
    let known : v < length seen = subst (λ (unfilled : UnfilledLists). v < length unfilled.by_value) (sym c.self.view_is)
    (subst (λ (value : Option ℕ). IfSome value (λ w. w < length c.args.self.now.by_value)) c.in-Some.is c.requires) in
    let read : get_or seen v [] ≡ c.index_mut.result.now.items =
    get_or-map (λ list. list.items) lists v c.index_mut.result.now [] (omega (arith, known, length-map lists (λ list. list.items)))
    ∙ ap (λ list. list.items) (sym c.index_mut.ensures.value) in
    ap (λ (each : List (List ℕ)). record { without = c.self.inside.without.items; by_value = each }) (map-set (λ list. list.items) lists v c.push.new.self
    ∙ ap (set seen v) (c.in_ok-push-in-Some.ensures.items ∙ ap (λ (list : List ℕ). list ++ c.args.number ∷ []) (sym read)))
    ∙ ap (λ (value : Option ℕ). with_number value c.args.number (record { without = c.self.inside.without.items; by_value = seen })) (sym c.in-Some.is)
    ∙ ap (with_number c.args.value c.args.number) c.self.view_is
