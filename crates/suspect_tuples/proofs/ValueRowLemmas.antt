-- The rows that give a parameter each of its values, found by one walk.
use Rattle.std.proofs.Common.{inl, inr, ◌≡◌, ◌≢◌, ℕ, ◌+◌, ◌<◌, Bool, true, false, ◌&&◌, ◌||◌, cond, List, [], ◌∷◌, ◌++◌, length, get_or, set, All, Option, Some, None, eqb}
use Rattle.std.proofs.Common.{Vec, Global, is_some, unwrap_or, map, refl, sym, ap, subst, ◌∙◌, arith, length-append}
use Rattle.std.specs.Prelude.{nat_lt}
use Rattle.std.proofs.Math.Bool.{or-false, and-true}
use Rattle.std.proofs.lemmas.Bool.{and_right, cases_eq, cases_lt, eq-eqb, le-ltb, lt-ltb, ne_eqb}
use Rattle.std.proofs.lemmas.List.{append-nil, get_or-map, get_or-set_other, get_or-set_same, get_or_append_left, get_or_push, length-map, map-set}
use Rattle.std.proofs.lemmas.List.Elements.{All-get_or, All-push, All-weaker}
use Rattle.std.proofs.lemmas.List.Folds.{list_any-append}
use Rattle.definitions.specs.believed.Demand.{is_among}
use Rattle.suspect_tuples.specs.RowBits.{has_at}
use Rattle.suspect_tuples.specs.believed.Suspects.{gives}
use Rattle.suspect_tuples.specs.ValueRows.{AreNumbers, AreValueRows, KeepsHaving, KeepsNumbers, is_value}
use Rattle.suspect_tuples.specs.declared.value_rows.ValueRows.{ValueRows}
use Rattle.suspect_tuples.specs.declared.value_rows.ValueRows.TheVariants.{Few, Many}
use Rattle.suspect_tuples.proofs.RowSetLemmas.{has_here, has_none, lt_more}

-- what holds of each item by its place holds with one item more
pub each_pushed : {X : Type 0} (P : ℕ → X → Type 0) (xs : List X) (x d : X) (n : ℕ) → length xs ≡ n → ((i : ℕ) → i < n → P i (get_or xs i d)) → P n x
    → (i : ℕ) → i < n + 1 → P i (get_or (xs ++ x ∷ []) i d)
each_pushed P xs x d n long each last i within = elim (cases_lt i n) [
  | inl earlier ↦ subst (P i) (sym (get_or_append_left xs (x ∷ []) d i (omega (arith, long, earlier)))) (each i earlier)
  | inr later ↦
      let here : n ≡ i = omega (arith, within, later) in
      subst (P i) (sym (get_or_push xs x d i (long ∙ here))) (subst (λ k. P k x) here last)
]

-- a cell has a value exactly where its row gives it
pub value_given : (row : List (Option ℕ)) (p v : ℕ) (cell : Option ℕ) → cell ≡ get_or row p None → is_value cell v ≡ gives row (p, v)
value_given row p v cell is = at cell ∙ ap (λ c. is_some c && eqb (unwrap_or c 0) v) is
  where
    at : (c : Option ℕ) → is_value c v ≡ (is_some c && eqb (unwrap_or c 0) v)
    at None = refl
    at (Some w) = refl

-- a number is put into the list of a value
pub list_pushed : (lists : List (Vec ℕ Global)) (w number : ℕ) (old new : Vec ℕ Global) → w < length lists → old ≡ get_or lists w old
    → new.items ≡ old.items ++ number ∷ [] → (v : ℕ) → get_or (map (λ list. list.items) (set lists w new)) v []
    ≡ get_or (map (λ list. list.items) lists) v [] ++ cond (eqb w v) (number ∷ []) []
list_pushed lists w number old new within is pushed v =
    ap (λ ls. get_or ls v []) (map-set (λ (list : Vec ℕ Global). list.items) lists w new) ∙ elim (cases_eq v w) [
      | inl same ↦
          ap (λ k. get_or (set all w new.items) k []) same ∙ get_or-set_same all w new.items [] (omega (arith, within, length-map lists (λ (list : Vec ℕ Global). list.items)))
          ∙ pushed ∙ ap (λ (list : Vec ℕ Global). list.items ++ number ∷ []) is
          ∙ ap (λ list. list ++ number ∷ []) (sym (get_or-map (λ (list : Vec ℕ Global). list.items) lists w old [] within))
          ∙ ap (λ k. get_or all k [] ++ number ∷ []) (sym same) ∙ ap (λ b. get_or all v [] ++ cond b (number ∷ []) []) (sym (eq-eqb w v (sym same)))
      | inr apart ↦
          get_or-set_other all w v new.items [] apart ∙ sym (append-nil (get_or all v []))
          ∙ ap (λ b. get_or all v [] ++ cond b (number ∷ []) []) (sym (ne_eqb w v (λ same. apart (sym same))))
    ]
  where
    all : List (List ℕ)
    all = map (λ list. list.items) lists

-- no row yet, and one more
pub numbers_none : (rows : List (List (Option ℕ))) (param count : ℕ) (lists : List (List ℕ)) → length lists ≡ count → All (λ list. list ≡ []) lists
    → AreNumbers rows param count 0 lists
numbers_none rows param count lists long empty = record {
  long = long;
  before = λ v within. subst (All (λ number. number < 0)) (sym (All-get_or (λ list. list ≡ []) lists v [] (omega (arith, within, long)) empty)) (λ k d inside. absurd (omega (arith, inside)));
  each = λ v at within.
      ap (λ list. is_among list at) (All-get_or (λ list. list ≡ []) lists v [] (omega (arith, within, long)) empty)
      ∙ sym (ap (λ b. b && has_at rows ((param, v) ∷ []) at) (le-ltb at 0 (omega arith)));
}

one_number : (n k : ℕ) (b here : Bool) → (n ≡ k → b ≡ here) → ((nat_lt k n && here) || (is_among (cond b (n ∷ []) []) k)) ≡ (nat_lt k (n + 1) && here)
one_number n k b here same = elim (cases_eq n k) [
  | inl is ↦
      ap (λ t. (t && here) || is_among (cond b (n ∷ []) []) k) (le-ltb k n (omega (arith, is))) ∙ among b (eq-eqb n k is) ∙ same is
      ∙ sym (ap (λ t. t && here) (lt-ltb k (n + 1) (omega (arith, is))))
  | inr apart ↦
      ap (λ t. (nat_lt k n && here) || t) (none b apart) ∙ or-false (nat_lt k n && here)
      ∙ ap (λ t. t && here) (sym (or-false (nat_lt k n)) ∙ ap (λ t. nat_lt k n || t) (sym (ne_eqb n k apart)) ∙ lt_more n k)
]
  where
    among : (c : Bool) → eqb n k ≡ true → is_among (cond c (n ∷ []) []) k ≡ c
    among true is = ap (λ t. t || false) is
    among false is = refl

    none : (c : Bool) → n ≢ k → is_among (cond c (n ∷ []) []) k ≡ false
    none true apart = ap (λ t. t || false) (ne_eqb n k apart)
    none false apart = refl

pub numbers_step : (rows : List (List (Option ℕ))) (param count at : ℕ) (lists after : List (List ℕ)) (cell : Option ℕ) → at < length rows
    → cell ≡ get_or (get_or rows at []) param None → AreNumbers rows param count at lists → length after ≡ length lists
    → ((v : ℕ) → v < length lists → get_or after v [] ≡ get_or lists v [] ++ cond (is_value cell v) (at ∷ []) []) → AreNumbers rows param count (at + 1) after
numbers_step rows param count at lists after cell within is are long each = record {
  long = long ∙ are.long;
  before = λ v below. subst (All (λ number. number < at + 1)) (sym (each v (omega (arith, below, are.long)))) (kept (is_value cell v) (get_or lists v []) (are.before v below));
  each = λ v k below.
      ap (λ list. is_among list k) (each v (omega (arith, below, are.long))) ∙ list_any-append (λ n. eqb n k) (get_or lists v []) (cond (is_value cell v) (at ∷ []) [])
      ∙ ap (λ t. t || is_among (cond (is_value cell v) (at ∷ []) []) k) (are.each v k below)
      ∙ one_number at k (is_value cell v) (has_at rows ((param, v) ∷ []) k) (λ same.
      value_given (get_or rows at []) param v cell is ∙ sym (ap (has_at rows ((param, v) ∷ [])) (sym same) ∙ has_here rows ((param, v) ∷ []) at [] within
      ∙ and-true (gives (get_or rows at []) (param, v))));
}
  where
    kept : (b : Bool) (list : List ℕ) → All (λ number. number < at) list → All (λ number. number < at + 1) (list ++ cond b (at ∷ []) [])
    kept true list below = All-push (λ number. number < at + 1) list at (All-weaker (λ number. number < at) (λ number. number < at + 1) (λ n less. omega (arith, less)) list below) (omega arith)
    kept false list below = subst (All (λ number. number < at + 1)) (sym (append-nil list)) (All-weaker (λ number. number < at) (λ number. number < at + 1) (λ n less. omega (arith, less)) list below)

-- what is kept of all numbers of a value
pub keeps_having : (rows : List (List (Option ℕ))) (param v count : ℕ) (lists : List (List ℕ)) (kept : ValueRows) → AreNumbers rows param count (length rows) lists
    → v < count → KeepsNumbers (get_or lists v []) kept → KeepsHaving rows ((param, v) ∷ []) kept
keeps_having rows param v count lists kept are below keeps = by_kind kept keeps
  where
    known : (at : ℕ) → is_among (get_or lists v []) at ≡ has_at rows ((param, v) ∷ []) at
    known at = are.each v at below ∙ elim (cases_lt at (length rows)) [
      | inl within ↦ ap (λ b. b && has_at rows ((param, v) ∷ []) at) (lt-ltb at (length rows) within)
      | inr past ↦
          ap (λ b. nat_lt at (length rows) && b) (has_none rows ((param, v) ∷ []) at past) ∙ and_right (nat_lt at (length rows)) false refl
          ∙ sym (has_none rows ((param, v) ∷ []) at past)
    ]

    by_kind : (k : ValueRows) → KeepsNumbers (get_or lists v []) k → KeepsHaving rows ((param, v) ∷ []) k
    by_kind (Few list) is = λ at. ap (λ ns. is_among ns at) is ∙ known at
    by_kind (Many words) is = λ at. is at ∙ known at

pub values_begin : (rows : List (List (Option ℕ))) (param : ℕ) → AreValueRows rows param 0 []
values_begin rows param = record { long = refl; each = λ v other below. absurd (omega (arith, below)) }

pub values_more : (rows : List (List (Option ℕ))) (param v : ℕ) (sets : List ValueRows) (kept : ValueRows) → AreValueRows rows param v sets
    → KeepsHaving rows ((param, v) ∷ []) kept → AreValueRows rows param (v + 1) (sets ++ kept ∷ [])
values_more rows param v sets kept are keeps = record {
  long = length-append sets (kept ∷ []) ∙ ap (λ n. n + 1) are.long;
  each = λ u other. each_pushed (λ w set. KeepsHaving rows ((param, w) ∷ []) set) sets kept other v are.long (λ w. are.each w other) keeps u;
}
