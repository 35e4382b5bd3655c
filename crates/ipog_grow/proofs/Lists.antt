-- Filters, and the first item that passes a test.
use Rattle.std.proofs.Common.{◌≡◌, Bool, true, false, cond, ◌&&◌, List, [], ◌∷◌, filter, find, Some, ap, refl}

-- the first item that passes two tests
pub find-filter : {X : Type 0} (p q : X → Bool) (xs : List X) → find (λ x. p x && q x) xs ≡ find q (filter p xs)
find-filter p q [] = refl
find-filter p q (x ∷ xs) = at (p x) (find-filter p q xs)
  where
    at : (b : Bool) → find (λ y. p y && q y) xs ≡ find q (filter p xs) → cond (b && q x) (Some x) (find (λ y. p y && q y) xs)
        ≡ find q (cond b (x ∷ filter p xs) (filter p xs))
    at true later = ap (λ rest. cond (q x) (Some x) rest) later
    at false later = later
