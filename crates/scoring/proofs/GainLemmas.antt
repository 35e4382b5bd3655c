-- Scores that are gains, in parts and as a list.
use Rattle.std.proofs.Common.{inl, inr, ◌≡◌, ℕ, ◌+◌, ◌-◌, ◌<◌, List, ◌++◌, length, get_or, map, ◌∙◌, refl, sym, ap, arith, length-append}
use Rattle.std.specs.List.{range_with_len}
use Rattle.std.specs.Prelude.{Option, slice_index}
use Rattle.std.proofs.lemmas.List.{get_or-append-add, get_or_append_left}
use Rattle.std.proofs.lemmas.List.FromFn.{get_or-map-range_with_len, length-map-range_with_len}
use Rattle.std.proofs.lemmas.Grind.{same_number_lists}
use Rattle.std.proofs.lemmas.Bool.{cases_lt}
use Rattle.scoring.specs.Gains.{AreGains}
use Rattle.uncovered_table.specs.Open.{OpenView, gain}

-- two parts, one after the other
pub joined : (table : OpenView) (cells : List (Option ℕ)) (p from next : ℕ) (left right : List ℕ) (i : ℕ) → i < length (left ++ right)
    → next ≡ from + length left → AreGains table cells p from left → AreGains table cells p next right → slice_index (left ++ right) i
    ≡ gain table cells p (from + i)
joined table cells p from next left right i within at first second =
    elim (cases_lt i (length left)) [
      | inl before ↦ get_or_append_left left right 0 i before ∙ first i before
      | inr behind ↦
          let own : i ≡ length left + (i - length left) = omega (arith, behind) in
          let inside : i - length left < length right = omega (arith, within, behind, length-append left right) in
          let same : next + (i - length left) ≡ from + i = omega (arith, at, behind) in
          ap (λ k. get_or (left ++ right) k 0) own ∙ get_or-append-add left right (i - length left) 0 ∙ second (i - length left) inside
          ∙ ap (gain table cells p) same
    ]

-- the gains that are put
pub put_gains : (table : OpenView) (cells : List (Option ℕ)) (p from n : ℕ) (scores : List ℕ) → scores ≡ map (gain table cells p) (range_with_len from n)
    → AreGains table cells p from scores
put_gains table cells p from n scores put i within =
    let long : length scores ≡ n = ap length put ∙ length-map-range_with_len (gain table cells p) from n in
    ap (λ ns. get_or ns i 0) put ∙ get_or-map-range_with_len (gain table cells p) from n i (from + i) 0 (omega (arith, within, long)) refl

-- all of them as a list
pub all_gains : (table : OpenView) (cells : List (Option ℕ)) (p n : ℕ) (scores : List ℕ) → length scores ≡ n → AreGains table cells p 0 scores
    → scores ≡ map (gain table cells p) (range_with_len 0 n)
all_gains table cells p n scores long gains =
    same_number_lists scores (map (gain table cells p) (range_with_len 0 n)) (long ∙ sym (length-map-range_with_len (gain table cells p) 0 n))
    (λ i within. gains i within ∙ sym (get_or-map-range_with_len (gain table cells p) 0 n i (0 + i) 0 (omega (arith, within, long)) refl))
