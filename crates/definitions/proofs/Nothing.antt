-- Where nothing is found.
use Rattle.std.proofs.Common.{◌≡◌, Bool, true, false, ◌&&◌, not, cond, List, [], ◌∷◌, ◌++◌, All, Option, Some, None, find, filter, flat_map, ◌∙◌, ap, ap₂, refl}
use Rattle.std.specs.List.{list_all}
use Rattle.std.specs.Option.{option_or}
use Rattle.std.proofs.lemmas.Bool.{false≢true, cond-false}
use Rattle.std.proofs.lemmas.List.Elements.{All-head, All-tail}

abbrev pub is_nothing : {X : Type 0} → Option X → Bool
is_nothing (Some x) = false
is_nothing None = true

-- where nothing is found, each element fails the test
pub none_found : {X : Type 0} (f : X → Bool) (xs : List X) → find f xs ≡ None → list_all (λ x. not (f x)) xs ≡ true
none_found f [] h = refl
none_found {X} f (x ∷ xs) h = at (f x) (none_found f xs) h
  where
    at : (b : Bool) → (find f xs ≡ None → list_all (λ y. not (f y)) xs ≡ true) → cond b (Some x) (find f xs) ≡ None
        → (not b && list_all (λ y. not (f y)) xs) ≡ true
    at true later h = absurd (false≢true (ap is_nothing h))
    at false later h = later h

-- where each element fails the test, nothing is kept
pub nothing_kept : {X : Type 0} (test : X → Bool) (xs : List X) → All (λ x. test x ≡ false) xs → filter test xs ≡ []
nothing_kept test [] fail = refl
nothing_kept test (x ∷ xs) fail =
    cond-false (test x) _ _ (All-head (λ y. test y ≡ false) x xs fail) ∙ nothing_kept test xs (All-tail (λ y. test y ≡ false) x xs fail)

-- and empty lists join to an empty one
pub nothing_joined : {X Y : Type 0} (f : X → List Y) (xs : List X) → All (λ x. f x ≡ []) xs → flat_map f xs ≡ []
nothing_joined f [] are = refl
nothing_joined f (x ∷ xs) are =
    ap₂ (λ first rest. first ++ rest) (All-head (λ y. f y ≡ []) x xs are) (nothing_joined f xs (All-tail (λ y. f y ≡ []) x xs are))

-- neither the one nor the other
pub no_first : {X : Type 0} (a b : Option X) → a ≡ None → b ≡ None → option_or a b ≡ None
no_first a b first later = ap (λ o. option_or o b) first ∙ later
