-- One of the seats of a table, and tests that some seat passes.
use Rattle.std.proofs.Common.{◌≡◌, ℕ, zero, suc, ◌<◌, Bool, true, false, ◌||◌, List, [], ◌∷◌, Some, length, get_or, set, ◌∙◌, refl, sym, ap, arith}
use Rattle.std.specs.Prelude.{slice_get}
use Rattle.std.specs.List.{list_any}
use Rattle.std.proofs.Math.Bool.{or_assoc, or_comm, or-false}
use Rattle.std.proofs.lemmas.Bool.{or_parts}
use Rattle.std.proofs.lemmas.List.Folds.{list_any_at}
use Rattle.std.proofs.lemmas.Option.{get_or_from_slice_get, slice_get-get_or, slice_get_within}
use Rattle.atomic_table.proofs.Lists.{set_else, set_here}
use mathlib.Core.Option.{some, some-injective, some-ne-none}
use lib.ListN.{get_elem?}

or_moved : (a b c : Bool) → (a || (b || c)) ≡ (b || (a || c))
or_moved a b c = sym (or_assoc a b c) ∙ ap (λ t. t || c) (or_comm a b) ∙ or_assoc b a c

module _ {A : Type 0} where
  -- what stands at a place
  pub at_place : (xs : List A) (i : ℕ) (a d : A) → get_elem? xs i ≡ some a → (i < length xs) × (get_or xs i d ≡ a)
  at_place [] i a d here = absurd (some-ne-none a (sym here))
  at_place (x ∷ xs) zero a d here = (omega arith, some-injective x a here)
  at_place (x ∷ xs) (suc i) a d here = let later = at_place xs i a d here in (omega (arith, later.0), later.1)

  -- and the two ways to say so
  item_of : (xs : List A) (i : ℕ) (a d : A) → i < length xs → get_or xs i d ≡ a → get_elem? xs i ≡ some a
  item_of [] i a d within is = absurd (omega (arith, within))
  item_of (x ∷ xs) zero a d within is = ap some is
  item_of (x ∷ xs) (suc i) a d within is = item_of xs i a d (omega (arith, within)) is

  pub item_there : (xs : List A) (i : ℕ) (a : A) → slice_get xs i ≡ Some a → get_elem? xs i ≡ some a
  item_there xs i a there = item_of xs i a a (slice_get_within xs i a there) (get_or_from_slice_get xs i a a there)

  pub slice_there : (xs : List A) (i : ℕ) (a : A) → get_elem? xs i ≡ some a → slice_get xs i ≡ Some a
  slice_there xs i a here = let there = at_place xs i a a here in slice_get-get_or xs i a there.0 ∙ ap Some there.1

  -- an item that passes a test
  pub any_here : (test : A → Bool) (xs : List A) (i : ℕ) (a : A) → get_elem? xs i ≡ some a → test a ≡ true → list_any test xs ≡ true
  any_here test xs i a here passes = let there = at_place xs i a a here in list_any_at test xs i a there.0 (ap test there.1 ∙ passes)

  -- another item in place of one, which passes a test where this one did, and maybe besides
  pub any_set : (test : A → Bool) (more : Bool) (xs : List A) (i : ℕ) (a b : A) → get_elem? xs i ≡ some a → test b ≡ (more || test a)
      → list_any test (set xs i b) ≡ (more || list_any test xs)
  any_set test more [] i a b here passes = absurd (some-ne-none a (sym here))
  any_set test more (x ∷ xs) zero a b here passes =
      ap (λ t. t || list_any test xs) (passes ∙ ap (λ y. more || test y) (sym (some-injective x a here))) ∙ or_assoc more (test x) (list_any test xs)
  any_set test more (x ∷ xs) (suc i) a b here passes =
      ap (λ t. test x || t) (any_set test more xs i a b here passes) ∙ or_moved (test x) more (list_any test xs)

  -- two items made one, which passes a test where one of them did, and an item that fails it
  pub any_joined : (test : A → Bool) (xs : List A) (i j : ℕ) (a b both none : A) → get_elem? xs i ≡ some a → ¬ (j ≡ i)
      → get_elem? (set xs i both) j ≡ some b → test both ≡ (test a || test b) → test none ≡ false
      → list_any test (set (set xs i both) j none) ≡ list_any test xs
  any_joined test xs i j a b both none here apart there passes fails = by_other (test b) refl
    where
      taken : get_elem? (set (set xs i both) j none) i ≡ some both
      taken = set_else (set xs i both) j i none (λ same. apart (sym same)) ∙ set_here xs i both (at_place xs i a a here).0

      by_other : (t : Bool) → test b ≡ t → list_any test (set (set xs i both) j none) ≡ list_any test xs
      by_other true is =
          let own : test both ≡ true = passes ∙ or_comm (test a) (test b) ∙ ap (λ t. t || test a) is in
          any_here test (set (set xs i both) j none) i both taken own
          ∙ sym (any_here test xs j b (sym (set_else xs i j both apart) ∙ there) is)
      by_other false is =
          any_set test false (set xs i both) j b none there (fails ∙ sym is)
          ∙ any_set test false xs i a both here (passes ∙ ap (λ t. test a || t) is ∙ or-false (test a))

  -- an item, where no other one passes a test
  pub any_alone : (test : A → Bool) (xs : List A) (i : ℕ) (a none : A) → get_elem? xs i ≡ some a → list_any test (set xs i none) ≡ false
      → list_any test xs ≡ test a
  any_alone test [] i a none here fails = absurd (some-ne-none a (sym here))
  any_alone test (x ∷ xs) zero a none here fails =
      ap (λ t. test x || t) (or_parts (test none) (list_any test xs) fails).1 ∙ or-false (test x) ∙ ap test (some-injective x a here)
  any_alone test (x ∷ xs) (suc i) a none here fails =
      let parts = or_parts (test x) (list_any test (set xs i none)) fails in
      ap (λ t. t || list_any test xs) parts.0 ∙ any_alone test xs i a none here parts.1
