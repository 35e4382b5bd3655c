use Rattle.std.proofs.Common.{◌≡◌, ◌∙◌, ◌++◌, ◌∷◌, ◌<◌, [], ap, arith, get_or, length, map, sym, subst}
use Rattle.std.specs.Prelude.{IfSome, slice_set}
use Rattle.uncovered_table.specs.Kept.{with_set}
use Rattle.std.proofs.lemmas.Grind.{common_steps}
use Rattle.std.proofs.lemmas.List.{get_or-map, map-set}
use Rattle.uncovered_table.proofs.tables.push_set.Goals as goal

pub returns-in_ok-push : goal.returns-in_ok-push
returns-in_ok-push c =
    let lists = c.args.lists.now.items in
    let list = c.index_mut.result.now in
    let within : c.in-Some.p < length lists = subst (λ o. IfSome o (λ p. p < length lists)) c.in-Some.is c.requires in
    let pushed : c.push.new.self.items ≡ list.items ++ c.args.set ∷ [] = grind (arith, common_steps) in
    let read : list ≡ get_or lists c.in-Some.p list = c.index_mut.ensures.value in
    let was : list.items ≡ get_or (map (λ list. list.items) lists) c.in-Some.p [] = ap (λ l. l.items) read
    ∙ sym (get_or-map (λ l. l.items) lists c.in-Some.p list [] within) in
    map-set (λ l. l.items) lists c.in-Some.p c.push.new.self
    ∙ ap (slice_set (map (λ l. l.items) lists) c.in-Some.p) (pushed ∙ ap (λ items. items ++ c.args.set ∷ []) was)
    ∙ ap (λ o. with_set o c.args.set (map (λ l. l.items) lists)) (sym c.in-Some.is)
