-- Tests of lists whose items are seen as something else.
use Rattle.std.proofs.Common.{◌≡◌, ◌+◌, ℕ, Bool, true, false, not, cond, List, [], ◌∷◌, length, map, refl, ap, ◌∙◌, sym, Some, None, nat_lt}
use Rattle.std.proofs.lemmas.List.{length-map}
use Rattle.std.specs.List.{list_any, position, position_or_len, prefix_len}
use Rattle.std.specs.Prelude.{is_some}
use Rattle.value_text.proofs.ListLemmas.{list_any-position}

module _ {A B : Type 0} (f : A → B) where
  prefix_len-map : (p : B → Bool) (xs : List A) → prefix_len p (map f xs) ≡ prefix_len (λ x. p (f x)) xs
  prefix_len-map p [] = refl
  prefix_len-map p (x ∷ xs) = ap (λ n. cond (p (f x)) (1 + n) 0) (prefix_len-map p xs)

  -- the place of the first item that passes
  pub position-map : (p : B → Bool) (xs : List A) → position p (map f xs) ≡ position (λ x. p (f x)) xs
  position-map p xs =
      ap (λ n. cond (nat_lt n (length (map f xs))) (Some n) None) (prefix_len-map (λ y. not (p y)) xs)
      ∙ ap (λ n. cond (nat_lt (position_or_len (λ x. p (f x)) xs) n) (Some (position_or_len (λ x. p (f x)) xs)) None) (length-map xs f)

-- an item passes exactly where there is a first that does
pub is_some-position : {X : Type 0} (p : X → Bool) (xs : List X) → is_some (position p xs) ≡ list_any p xs
is_some-position p xs = at (nat_lt (position_or_len p xs) (length xs)) ∙ sym (list_any-position p xs)
  where
    at : (within : Bool) → is_some (cond within (Some (position_or_len p xs)) None) ≡ within
    at true = refl
    at false = refl

-- the first place counts what stands before it
pub position_is : {X : Type 0} (p : X → Bool) (xs : List X) (place : ℕ) → position p xs ≡ Some place → position_or_len p xs ≡ place
position_is p xs place is = at (nat_lt (position_or_len p xs) (length xs)) is
  where
    at : (within : Bool) → cond within (Some (position_or_len p xs)) None ≡ Some place → position_or_len p xs ≡ place
    at true same = cc
    at false same = cc
