-- Places of events in an order.
use Rattle.std.proofs.Common.{◌≡◌, ℕ, ◌+◌, Bool, true, false, not, cond, List, [], ◌∷◌, ◌++◌, length, map, Some, None, nat_lt, position, refl, ap, ◌∙◌, arith, zero-add}
use Rattle.std.specs.List.{position_or_len, range_with_len}
use Rattle.std.proofs.lemmas.Bool.{ltb-false}
use Rattle.std.proofs.lemmas.List.{map-append}
use Rattle.std.proofs.lemmas.List.Sums.{prefix_len-le-length}
use Rattle.value_text.proofs.ListLemmas.{range_with_len_more}

module _ {X : Type 0} (p : X → Bool) (xs : List X) where
  placed_at : (within : Bool) (i : ℕ) → nat_lt (position_or_len p xs) (length xs) ≡ within → cond within (Some (position_or_len p xs)) None ≡ Some i → position_or_len p xs ≡ i
  placed_at true i e is = cc
  placed_at false i e is = cc

  pub found_at : (i : ℕ) → position p xs ≡ Some i → position_or_len p xs ≡ i
  found_at i is = placed_at _ i refl is

  placed_past : (within : Bool) → nat_lt (position_or_len p xs) (length xs) ≡ within → cond within (Some (position_or_len p xs)) None ≡ None → within ≡ false
  placed_past true e is = cc
  placed_past false e is = refl

  pub found_nowhere : position p xs ≡ None → position_or_len p xs ≡ length xs
  found_nowhere is =
      let past = ltb-false _ _ (placed_past _ refl is) in
      omega (arith, past, prefix_len-le-length (λ x. not (p x)) xs)

-- one more
pub mapped_more : {X : Type 0} (f : ℕ → X) (n : ℕ) → map f (range_with_len 0 (n + 1)) ≡ map f (range_with_len 0 n) ++ f n ∷ []
mapped_more f n =
    ap (map f) (range_with_len_more 0 n) ∙ map-append f (range_with_len 0 n) ((0 + n) ∷ [])
    ∙ ap (λ k. map f (range_with_len 0 n) ++ f k ∷ []) (zero-add n)
