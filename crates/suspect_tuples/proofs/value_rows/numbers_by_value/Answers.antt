use Rattle.std.proofs.Common.{◌≡◌, ◌∙◌, None, [], Vec, Global, ℕ, get_or, map, ap, arith, sym}
use Rattle.std.proofs.lemmas.List.{length-map}
use Rattle.std.proofs.lemmas.List.Elements.{All-map}
use Rattle.suspect_tuples.proofs.ValueRowLemmas.{numbers_none, numbers_step}
use Rattle.suspect_tuples.proofs.value_rows.numbers_by_value.Goals as goal

pub loop-at-init : goal.loop-at-init
loop-at-init c =
    let lists = c.in_ok-lists.lists.items in
    numbers_none c.args.rows.now c.args.param c.args.count (map (λ (list : Vec ℕ Global). list.items) lists)
    (length-map lists (λ (list : Vec ℕ Global). list.items) ∙ c.in_ok-lists.ensures.long)
    (All-map (λ list. list ≡ []) (λ (list : Vec ℕ Global). list.items) lists c.in_ok-lists.ensures.empty)

pub loop-at-preserved : goal.loop-at-preserved
loop-at-preserved c =
    let lists = c.loop-at.lists.items in
    let after = c.add_number.new.lists.items in
    let long = length-map lists (λ (list : Vec ℕ Global). list.items) in
    numbers_step c.args.rows.now c.args.param c.args.count c.loop-at.at (map (λ (list : Vec ℕ Global). list.items) lists)
    (map (λ (list : Vec ℕ Global). list.items) after) c.get.result (omega (arith, c.loop-at-test.true, c.len-at-end.ensures))
    (c.get.ensures ∙ ap (λ row. get_or row c.args.param None) c.row.ensures) c.loop-at.invariant
    (length-map after (λ (list : Vec ℕ Global). list.items) ∙ c.in_ok-add_number.ensures.long ∙ sym long)
    (λ v within. c.in_ok-add_number.ensures.each v (omega (arith, within, long)))
