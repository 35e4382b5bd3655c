-- The slices of one more value, and of one more parameter.
use Rattle.std.proofs.Common.{◌≡◌, ℕ, ◌+◌, Bool, true, false, cond, List, [], ◌∷◌, ◌++◌, map, filter, flat_map, ◌∙◌, ap, refl}
use Rattle.std.specs.List.{range_with_len}
use Rattle.std.proofs.lemmas.List.{map-append, append-nil}
use Rattle.std.proofs.lemmas.List.Elements.{filter-append}
use Rattle.std.proofs.lemmas.Grind.{flat_map-append}
use Rattle.value_text.proofs.ListLemmas.{range-more}

pub passing-more : {X : Type 0} (test : ℕ → Bool) (f : ℕ → X) (n : ℕ)
    → map f (filter test (range_with_len 0 (n + 1))) ≡ map f (filter test (range_with_len 0 n)) ++ cond (test n) (f n ∷ []) []
passing-more test f n =
    ap (λ ks. map f (filter test ks)) (range-more n)
    ∙ ap (map f) (filter-append test (range_with_len 0 n) (n ∷ []))
    ∙ map-append f (filter test (range_with_len 0 n)) (cond (test n) (n ∷ []) [])
    ∙ ap (λ rest. map f (filter test (range_with_len 0 n)) ++ rest) (at (test n))
  where
    at : (b : Bool) → map f (cond b (n ∷ []) []) ≡ cond b (f n ∷ []) []
    at true = refl
    at false = refl

pub flat-more : {X : Type 0} (f : ℕ → List X) (n : ℕ) → flat_map f (range_with_len 0 (n + 1)) ≡ flat_map f (range_with_len 0 n) ++ f n
flat-more f n =
    ap (flat_map f) (range-more n) ∙ flat_map-append f (range_with_len 0 n) (n ∷ [])
    ∙ ap (λ rest. flat_map f (range_with_len 0 n) ++ rest) (append-nil (f n))
