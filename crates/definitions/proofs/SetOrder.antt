-- Sets put in lexicographic order.
use Rattle.std.proofs.Common.{Ordering, Less, Equal, Greater, ◌≡◌, ℕ, List, [], ◌∷◌, ◌∙◌, refl, ap}
use Rattle.std.specs.List.{AllByRecursion}
use Rattle.std.specs.List.Sorted.{IsStrictlySortedBy}
use Rattle.std.specs.Ordering.{nat_cmp, ordering_reverse}
use Rattle.std.specs.Cmp.Lexicographic.{slice_cmp}
use Rattle.std.proofs.lemmas.Cmp.{nat_list_cmp_total}
use Rattle.definitions.specs.believed.Demand.{in_order, with_set}

-- the lexicographic order
abbrev pub lex : List ℕ → List ℕ → Ordering
lex = slice_cmp nat_cmp

pub flipped : (x y : List ℕ) → lex x y ≡ Greater → lex y x ≡ Less
flipped x y e = nat_list_cmp_total.antisymm y x ∙ ap ordering_reverse e

-- what is above a set is above one below it
pub above_more : (x y : List ℕ) (zs : List (List ℕ)) → lex x y ≡ Less → AllByRecursion (λ z. lex y z ≡ Less) zs → AllByRecursion (λ z. lex x z ≡ Less) zs
above_more x y [] e above = tt
above_more x y (z ∷ zs) e above = (nat_list_cmp_total.trans x y z e above.0, above_more x y zs e above.1)

-- what holds of a set and of others holds with it among them
pub each_with_set : (P : List ℕ → Type 0) (set : List ℕ) (sets : List (List ℕ)) → P set → AllByRecursion P sets → AllByRecursion P (with_set set sets)
each_with_set P set [] own each = (own, tt)
each_with_set P set (other ∷ sets) own each = by_order (lex set other) refl (each_with_set P set sets own each.1)
  where
    by_order : (o : Ordering) → lex set other ≡ o → AllByRecursion P (with_set set sets) → AllByRecursion P (with_set set (other ∷ sets))
    by_order Less e rest = rw e (own, each)
    by_order Equal e rest = rw e each
    by_order Greater e rest = rw e (each.0, rest)

pub sorted_with_set : (set : List ℕ) (sets : List (List ℕ)) → IsStrictlySortedBy lex sets → IsStrictlySortedBy lex (with_set set sets)
unfolding IsStrictlySortedBy
sorted_with_set set [] sorted = (tt, tt)
sorted_with_set set (other ∷ sets) sorted = by_order (lex set other) refl (sorted_with_set set sets sorted.1)
  where
    by_order : (o : Ordering) → lex set other ≡ o → IsStrictlySortedBy lex (with_set set sets) → IsStrictlySortedBy lex (with_set set (other ∷ sets))
    by_order Less e rest = rw e ((e, above_more set other sets e sorted.0), sorted)
    by_order Equal e rest = rw e sorted
    by_order Greater e rest = rw e (each_with_set (λ z. lex other z ≡ Less) set sets (flipped set other e) sorted.0, rest)

pub sorted_in_order : (sets : List (List ℕ)) → IsStrictlySortedBy lex (in_order sets)
unfolding IsStrictlySortedBy
sorted_in_order [] = tt
sorted_in_order (set ∷ sets) = sorted_with_set set (in_order sets) (sorted_in_order sets)

pub each_in_order : (P : List ℕ → Type 0) (sets : List (List ℕ)) → AllByRecursion P sets → AllByRecursion P (in_order sets)
each_in_order P [] each = tt
each_in_order P (set ∷ sets) each = each_with_set P set (in_order sets) each.0 (each_in_order P sets each.1)
