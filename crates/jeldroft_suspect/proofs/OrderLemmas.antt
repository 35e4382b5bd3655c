-- Places by falling number of failing tests, those of one number in their order.
use Rattle.std.proofs.Common.{◌≡◌, ℕ, suc, ◌<◌, ◌≤◌, List, [], ◌∷◌, length, All, AllPairs, nat_le, inl, inr, arith}
use Rattle.std.specs.Prelude.{◌⊎◌, IsPermutation}
use Rattle.std.specs.List.{range_with_len}
use Rattle.std.proofs.Math.Nat.{eq-or-lt_of_le}
use Rattle.std.proofs.lemmas.Bool.Decides.{nat_tests}
use Rattle.std.proofs.lemmas.List.Elements.{All-cons, All-head, All-nil, All-tail}
use Rattle.std.proofs.lemmas.List.FromFn.{get_or-range_with_len, length-range_with_len}
use Rattle.std.proofs.lemmas.List.Kept.{AllPairs-cons}
use Rattle.std.proofs.lemmas.List.Sorted.{All-permutation, IsPermutation-cons, IsPermutation-middle, IsPermutation-refl, IsPermutation-trans}
use Rattle.std.proofs.lemmas.Bool.{cond_both}
use Rattle.cov_model.specs.believed.Preference.{by_falling_weight, insert_by_weight}
use Rattle.jeldroft_suspect.specs.Laws.{CombinationsAreToldInOrder}
use Rattle.jeldroft_suspect.specs.believed.SuspectsText.{found_at}

-- the first of a list, and the others
pub first_with : {X : Type 0} (R : X → X → Type 0) (x : X) (xs : List X) → AllPairs R (x ∷ xs) → All (R x) xs
first_with R x xs pairs = λ k d within. pairs 0 (suc k) d (omega arith) (omega (arith, within))

pub others : {X : Type 0} (R : X → X → Type 0) (x : X) (xs : List X) → AllPairs R (x ∷ xs) → AllPairs R xs
others R x xs pairs = λ i j d before within. pairs (suc i) (suc j) d (omega (arith, before)) (omega (arith, within))

module _ (count : ℕ → ℕ) where
  abbrev Before : ℕ → ℕ → Type 0
  Before at later = (count later < count at) ⊎ ((count later ≡ count at) × (at < later))

  insert_all : (P : ℕ → Type 0) (v : ℕ) (ys : List ℕ) → P v → All P ys → All P (insert_by_weight count v ys)
  insert_all P v [] here all = All-cons P v [] here all
  insert_all P v (w ∷ rest) here all =
      cond_both (nat_le (count w) (count v)) (v ∷ w ∷ rest) (w ∷ insert_by_weight count v rest) (All P)
      (λ lighter. All-cons P v (w ∷ rest) here all)
      (λ heavier. All-cons P w (insert_by_weight count v rest) (All-head P w rest all) (insert_all P v rest here (All-tail P w rest all)))

  insert_each : (v : ℕ) (ys : List ℕ) → IsPermutation (v ∷ ys) (insert_by_weight count v ys)
  insert_each v [] = IsPermutation-refl (v ∷ [])
  insert_each v (w ∷ rest) =
      cond_both (nat_le (count w) (count v)) (v ∷ w ∷ rest) (w ∷ insert_by_weight count v rest) (IsPermutation (v ∷ w ∷ rest))
      (λ lighter. IsPermutation-refl (v ∷ w ∷ rest))
      (λ heavier. IsPermutation-trans (v ∷ w ∷ rest) (w ∷ v ∷ rest) (w ∷ insert_by_weight count v rest) (IsPermutation-middle (v ∷ []) w rest)
      (IsPermutation-cons w (v ∷ rest) (insert_by_weight count v rest) (insert_each v rest)))

  before_from : (v y : ℕ) → count y ≤ count v → v < y → Before v y
  before_from v y most below = elim (eq-or-lt_of_le most) [ inl same ↦ inr (same, below) | inr less ↦ inl less ]

  -- what stands behind one that as many or fewer tests have
  at_most : (w y : ℕ) → Before w y → count y ≤ count w
  at_most w y before = elim before [ inl less ↦ omega (arith, less) | inr same ↦ omega (arith, same.0) ]

  insert_before : (v : ℕ) (ys : List ℕ) → All (λ y. v < y) ys → AllPairs Before ys
      → AllPairs Before (insert_by_weight count v ys)
  insert_before v [] below falls = AllPairs-cons Before v [] (All-nil (Before v)) falls
  insert_before v (w ∷ rest) below falls =
      cond_both (nat_le (count w) (count v)) (v ∷ w ∷ rest) (w ∷ insert_by_weight count v rest) (AllPairs Before)
      (λ lighter.
      let most : count w ≤ count v = grind (arith, nat_tests) in
      AllPairs-cons Before v (w ∷ rest)
      (All-cons (Before v) w rest (before_from v w most (All-head (λ y. v < y) w rest below))
      (λ k d within. before_from v _ (omega (arith, most, at_most w _ (first_with Before w rest falls k d within))) (All-tail (λ y. v < y) w rest below k d within)))
      falls)
      (λ heavier.
      let more : count v < count w = grind (arith, nat_tests) in
      AllPairs-cons Before w (insert_by_weight count v rest) (insert_all (Before w) v rest (inl more) (first_with Before w rest falls))
      (insert_before v rest (All-tail (λ y. v < y) w rest below) (others Before w rest falls)))

  pub sorted_each : (xs : List ℕ) → IsPermutation xs (by_falling_weight count xs)
  sorted_each [] = IsPermutation-refl []
  sorted_each (v ∷ rest) =
      IsPermutation-trans (v ∷ rest) (v ∷ by_falling_weight count rest) (by_falling_weight count (v ∷ rest))
      (IsPermutation-cons v rest (by_falling_weight count rest) (sorted_each rest)) (insert_each v (by_falling_weight count rest))

  pub sorted_before : (xs : List ℕ) → AllPairs (λ x y. x < y) xs → AllPairs Before (by_falling_weight count xs)
  sorted_before [] rising = λ i j d before within. absurd (omega (arith, within))
  sorted_before (v ∷ rest) rising =
      insert_before v (by_falling_weight count rest)
      (All-permutation (λ y. v < y) rest (by_falling_weight count rest) (sorted_each rest) (first_with (λ x y. x < y) v rest rising))
      (sorted_before rest (others (λ x y. x < y) v rest rising))

places_rise : (n : ℕ) → AllPairs (λ x y. x < y) (range_with_len 0 n)
places_rise n = λ i j d before within.
    let short : j < n = omega (arith, within, length-range_with_len 0 n) in
    omega (arith, before, get_or-range_with_len 0 n i d (omega arith), get_or-range_with_len 0 n j d short)

pub told_in_order : CombinationsAreToldInOrder
told_in_order found = record {
  each = sorted_each (λ at. (found_at found at).1) (range_with_len 0 (length found));
  falling = sorted_before (λ at. (found_at found at).1) (range_with_len 0 (length found)) (places_rise (length found));
}
