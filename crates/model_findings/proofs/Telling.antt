-- What is told of one item more.
use Rattle.std.proofs.Common.{◌≡◌, ℕ, zero, suc, ◌+◌, ◌<◌, List, [], ◌∷◌, ◌++◌, get_or, length, map, take, flat_map, ap, sym, ◌∙◌, zero-add, All, subst, arith, add-one}
use Rattle.std.proofs.lemmas.Grind.{flat_map-append}
use Rattle.std.proofs.lemmas.List.{append_assoc, get_or-map, length-map, take_more}
use Rattle.model_lint.proofs.Steps.{append_nothing}
use Rattle.model_findings.specs.believed.Findings.{Fact, told_from}

-- of the items before a place and the one there
told_more : {X : Type 0} (told : ℕ → X → List Fact) (n k : ℕ) (xs : List X) (i : ℕ) (d : X) → i < length xs → n + i ≡ k
    → told_from told n (take (suc i) xs) ≡ told_from told n (take i xs) ++ told k (get_or xs i d)
told_more told n k [] i d within is = absurd (omega (arith, within))
told_more told n k (x ∷ xs) zero d within is = append_nothing (told n x) ∙ ap (λ j. told j x) (omega (arith, is))
told_more told n k (x ∷ xs) (suc i) d within is =
    ap (λ rest. told n x ++ rest) (told_more told (suc n) k xs i d (omega (arith, within)) (omega (arith, is)))
    ∙ sym (append_assoc (told n x) (told_from told (suc n) (take i xs)) (told k (get_or xs i d)))

pub next_told : {X : Type 0} (told : ℕ → X → List Fact) (xs : List X) (i : ℕ) (x : X) (before list next : List Fact) → i < length xs → get_or xs i x ≡ x
    → list ≡ before ++ told_from told 0 (take i xs) → next ≡ list ++ told i x → next ≡ before ++ told_from told 0 (take (i + 1) xs)
next_told told xs i x before list next within is so_far longer =
    longer ∙ ap (λ front. front ++ told i x) so_far
    ∙ append_assoc before (told_from told 0 (take i xs)) (told i x)
    ∙ ap (λ rest. before ++ rest) (ap (λ y. told_from told 0 (take i xs) ++ told i y) (sym is) ∙ sym (told_more told 0 i xs i x within (zero-add i)) ∙ ap (λ j. told_from told 0 (take j xs)) (sym (add-one i)))

-- the same of items that are mapped
pub next_mapped : {X Y : Type 0} (f : X → Y) (told : ℕ → Y → List Fact) (xs : List X) (i : ℕ) (x : X) (before list next : List Fact) → i < length xs → get_or xs i x ≡ x
    → list ≡ before ++ told_from told 0 (take i (map f xs)) → next ≡ list ++ told i (f x) → next ≡ before ++ told_from told 0 (take (i + 1) (map f xs))
next_mapped f told xs i x before list next within is so_far longer =
    next_told told (map f xs) i (f x) before list next (omega (arith, within, length-map xs f)) (get_or-map f xs i x (f x) within ∙ ap f is) so_far longer

-- the same of lists that are joined
pub next_flat : {X : Type 0} (told : X → List Fact) (xs : List X) (i : ℕ) (d : X) (before list next : List Fact) → i < length xs
    → list ≡ before ++ flat_map told (take i xs) → next ≡ list ++ told (get_or xs i d) → next ≡ before ++ flat_map told (take (i + 1) xs)
next_flat told xs i d before list next within so_far longer =
    longer ∙ ap (λ front. front ++ told (get_or xs i d)) so_far
    ∙ append_assoc before (flat_map told (take i xs)) (told (get_or xs i d))
    ∙ ap (λ rest. before ++ rest) (sym (ap (flat_map told) (take_more xs i d within) ∙ flat_map-append told (take i xs) (get_or xs i d ∷ [])
    ∙ ap (λ last. flat_map told (take i xs) ++ last) (append_nothing (told (get_or xs i d)))))

-- what holds of each mapped item holds of the one at a place
pub mapped_at : {X Y : Type 0} (P : Y → Type 0) (f : X → Y) (xs : List X) (i : ℕ) (x : X) → All P (map f xs) → i < length xs → get_or xs i x ≡ x → P (f x)
mapped_at P f xs i x all within is = subst P (get_or-map f xs i x (f x) within ∙ ap f is) (all i (f x) (omega (arith, within, length-map xs f)))
