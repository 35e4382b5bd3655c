use Rattle.std.proofs.Common.{◌≡◌, ◌+◌, ◌<◌, ◌∙◌, [], Vec, Global, ℕ, All, length, get_or, map, ap, arith, rules, subst, sym}
use Rattle.std.proofs.lemmas.List.{get_or-map, length-map}
use Rattle.suspect_tuples.specs.ValueRows.{AreValueRows, KeepsNumbers}
use Rattle.suspect_tuples.proofs.ValueRowLemmas.{keeps_having, values_more}
use Rattle.suspect_tuples.proofs.value_rows.value_rows.Goals as goal

pub kept_rows-requires : goal.kept_rows-requires
kept_rows-requires c =
    let lists = c.in_ok-lists.lists.items in
    let all = map (λ (list : Vec ℕ Global). list.items) lists in
    let v = c.loop-value.value in
    let inside : v < length lists = omega (arith, c.loop-value-test.true, c.len-value-end.ensures) in
    let below : v < c.args.count = omega (arith, inside, c.in_ok-lists.ensures.long, length-map lists (λ (list : Vec ℕ Global). list.items)) in
    let at : c.index.result.now ≡ get_or lists v c.index.result.now = search rules in
    let list : c.as_slice.result.now ≡ get_or all v [] =
    c.as_slice.ensures.value ∙ ap (λ (l : Vec ℕ Global). l.items) at ∙ sym (get_or-map (λ (l : Vec ℕ Global). l.items) lists v c.index.result.now [] inside) in
    subst (All (λ n. n < c.len.result)) (sym list) (subst (λ top. All (λ n. n < top) (get_or all v [])) (sym c.len.ensures) (c.in_ok-lists.ensures.before v below))

pub loop-value-preserved : goal.loop-value-preserved
loop-value-preserved c =
    let rows = c.args.rows.now in
    let lists = c.in_ok-lists.lists.items in
    let all = map (λ (list : Vec ℕ Global). list.items) lists in
    let v = c.loop-value.value in
    let kept = c.in_ok-kept_rows.field-0 in
    let inside : v < length lists = omega (arith, c.loop-value-test.true, c.len-value-end.ensures) in
    let below : v < c.args.count = omega (arith, inside, c.in_ok-lists.ensures.long, length-map lists (λ (list : Vec ℕ Global). list.items)) in
    let at : c.index.result.now ≡ get_or lists v c.index.result.now = search rules in
    let list : c.as_slice.result.now ≡ get_or all v [] =
    c.as_slice.ensures.value ∙ ap (λ (l : Vec ℕ Global). l.items) at ∙ sym (get_or-map (λ (l : Vec ℕ Global). l.items) lists v c.index.result.now [] inside) in
    subst (AreValueRows rows c.args.param (v + 1)) (sym c.in_ok-push.ensures.ok)
    (values_more rows c.args.param v c.loop-value.sets kept c.loop-value.invariant
    (keeps_having rows c.args.param v c.args.count all kept c.in_ok-lists.ensures below (subst (λ ns. KeepsNumbers ns kept) list c.in_ok-kept_rows.ensures)))
