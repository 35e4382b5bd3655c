-- A rising list of parameters is what it picks of the parameters.
use Rattle.std.proofs.Common.{inl, inr, ◌≡◌, ℕ, zero, suc, ◌+◌, ◌<◌, true, List, [], ◌∷◌, ◌∙◌, refl, sym, subst, ap, arith}
use Rattle.std.specs.Prelude.{◌&&◌, nat_le, nat_lt}
use Rattle.std.specs.List.{filter, range_with_len}
use Rattle.std.proofs.lemmas.Bool.{cases_eq, and_parts, eq-eqb}
use Rattle.std.proofs.lemmas.Bool.Decides.{nat_tests}
use Rattle.definitions.specs.believed.Demand.{is_among}
use Rattle.tuple_index.specs.Places.{RisesFrom, rises_from}
use Rattle.tuple_index.proofs.ListingLemmas.{apart_test, not_among_before}

rises_told : (set : List ℕ) (p e : ℕ) → rises_from p e set ≡ true → RisesFrom p e set
rises_told [] p e rises = tt
rises_told (q ∷ set) p e rises =
    let parts = and_parts (nat_le p q) (nat_lt q e && rises_from (q + 1) e set) rises in
    let later = and_parts (nat_lt q e) (rises_from (q + 1) e set) parts.1 in
    (grind (arith, nat_tests, parts.0), grind (arith, nat_tests, later.0), rises_told set (q + 1) e later.1)

-- a member before the place picks nothing from there on
picked_past : (q : ℕ) (set : List ℕ) (p n : ℕ) → q < p → filter (is_among (q ∷ set)) (range_with_len p n) ≡ filter (is_among set) (range_with_len p n)
picked_past q set p zero below = refl
picked_past q set p (suc n) below =
    let rest = picked_past q set (p + 1) n (omega arith) in
    let test = apart_test q p below in
    rw (test, rest) refl

picked_itself : (set : List ℕ) (p n e : ℕ) → e ≡ p + n → RisesFrom p e set → filter (is_among set) (range_with_len p n) ≡ set
picked_itself [] p zero e end rises = refl
picked_itself [] p (suc n) e end rises = picked_itself [] (p + 1) n e (omega (arith, end)) tt
picked_itself (q ∷ set) p zero e end rises = absurd (omega (arith, end, rises.0, rises.1))
picked_itself (q ∷ set) p (suc n) e end rises =
    elim (cases_eq q p) [
      | inl here ↦
          let test = eq-eqb p p refl in
          let later = picked_itself set (p + 1) n e (omega (arith, end)) (subst (λ r. RisesFrom (r + 1) e set) here rises.2) in
          let first : filter (is_among (p ∷ set)) (range_with_len p (suc n)) ≡ p ∷ filter (is_among (p ∷ set)) (range_with_len (p + 1) n) = rw test refl in
          subst (λ r. filter (is_among (r ∷ set)) (range_with_len p (suc n)) ≡ r ∷ set) (sym here)
          (first ∙ ap (λ xs. p ∷ xs) (picked_past p set (p + 1) n (omega arith) ∙ later))
      | inr apart ↦
          let above : RisesFrom (p + 1) e (q ∷ set) = (omega (arith, rises.0, apart), rises.1, rises.2) in
          let test = not_among_before (q ∷ set) p e above in
          let first : filter (is_among (q ∷ set)) (range_with_len p (suc n)) ≡ filter (is_among (q ∷ set)) (range_with_len (p + 1) n) = rw test refl in
          first ∙ picked_itself (q ∷ set) (p + 1) n e (omega (arith, end)) above
    ]

pub rising_itself : (set : List ℕ) (n : ℕ) → rises_from 0 n set ≡ true → filter (is_among set) (range_with_len 0 n) ≡ set
rising_itself set n rises = picked_itself set 0 n n (omega arith) (rises_told set 0 n rises)
