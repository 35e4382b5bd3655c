use Rattle.std.proofs.Common.{◌≡◌, ℕ, ◌<◌, ◌≤◌, ◌∷◌, ◌++◌, [], ◌&&◌, ◌∙◌, List, not, length, ap, sym, subst, arith}
use Rattle.std.proofs.lemmas.List.Elements.{All-append, All-weaker}
use Rattle.std.proofs.lemmas.Result.{on_ok_weaker}
use Rattle.std.proofs.lemmas.List.FromFn.{length-map-range_with_len}
use Rattle.seq_check.proofs.CheckSteps.{steps_exist}
use Rattle.seq_check.specs.EventSets.{IsFront, Tells, is_open, places, rises}
use Rattle.seq_check.specs.believed.Orders.{arrows, is_had, place, steps}
use Rattle.seq_cover.specs.Growing.{IsLeft}
use Rattle.seq_cover.specs.believed.OrderGrowth.{built_from}
use Rattle.seq_cover.proofs.GrowLemmas.{row_closes}
use Rattle.seq_cover.proofs.grow.Growth.add_row.Goals as goal

pub close_row-requires : goal.close_row-requires
close_row-requires c =
    let count_is = c.len-count.ensures ∙ ap length c.names.ensures in
    let most = c.assert_invariant.ensures.few in
    let long = ap length (c.as_slice-2.ensures.value ∙ c.in_ok-places.ensures) ∙ length-map-range_with_len (place c.as_slice.result.now) 0 c.len-count.result in
    record { few = omega (arith, long, count_is) }

pub returns-clause-rows : goal.returns-clause-rows
returns-clause-rows c =
    let e = c.args.events.now in
    let n = length e.names in
    let sequence = c.args.sequence.now in
    let rows = c.args.self.now.suite.rows in
    let most : n ≤ 64 = c.assert_invariant.ensures.few in
    let count_is : c.len-count.result ≡ n = c.len-count.ensures ∙ ap length c.names.ensures in
    let len_is : c.length.result ≡ e.len = c.length.ensures in
    let exist = All-append (λ pair. (pair.0 < 64) × (pair.1 < 64)) (steps sequence) e.precedences
    (steps_exist 64 sequence (All-weaker (λ event. event < n) (λ event. event < 64) (λ event below. omega (arith, below, most)) sequence c.requires.exist))
    (All-weaker (λ pair. (pair.0 < n) × (pair.1 < n)) (λ pair. (pair.0 < 64) × (pair.1 < 64))
    (λ pair below. let first = below.0 in let second = below.1 in (omega (arith, first, most), omega (arith, second, most))) e.precedences c.assert_invariant.ensures.exist) in
    let tells = subst (λ k. Tells c.args.self.now.opened k (λ s. not (is_had rows s))) (sym count_is) c.requires.left.tells in
    let built = c.in_ok-row.ensures.value (arrows e sequence) rows (c.in_ok-back.ensures e.precedences c.requires.fixed.back_are) exist tells in
    let is = built ∙ ap (λ k. built_from k c.length.result (arrows e sequence) rows k []) count_is ∙ ap (λ l. built_from n l (arrows e sequence) rows n []) len_is in
    on_ok_weaker c.push.result (λ pushed. pushed ∙ ap (λ row. rows ++ row ∷ []) is) c.push.ensures.ok

pub returns-clause-left : goal.returns-clause-left
returns-clause-left c =
    let e = c.args.events.now in
    let n = length e.names in
    let o = c.args.self.now.opened in
    let rows = c.args.self.now.suite.rows in
    let row = c.in_ok-row.row in
    let count_is : c.len-count.result ≡ n = c.len-count.ensures ∙ ap length c.names.ensures in
    let at = c.as_slice-2.ensures.value ∙ c.in_ok-places.ensures ∙ ap (λ k. places k c.as_slice.result.now) count_is ∙ ap (places n) c.as_slice.ensures in
    let closes = subst (λ l. (front : List ℕ) (last : ℕ) → IsFront o.len (length l) front → last < length l
    → is_open c.close_row.new.self front last ≡ (is_open o front last && not (rises l (front ++ last ∷ [])))) at c.close_row.ensures.closed in
    let left : IsLeft e c.close_row.new.self (rows ++ row ∷ []) = record {
      len = c.close_row.ensures.len ∙ c.requires.left.len;
      tells = row_closes o c.close_row.new.self n rows row c.close_row.ensures.len c.requires.left.tells closes;
    } in
    on_ok_weaker c.push.result (λ pushed. subst (IsLeft e c.close_row.new.self) (sym pushed) left) c.push.ensures.ok
