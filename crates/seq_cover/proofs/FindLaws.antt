-- What the first item that passes says, and a test that not all items pass.
use Rattle.std.proofs.Common.{◌≡◌, ℕ, ◌<◌, Bool, true, false, List, [], ◌∷◌, find, Option, Some, None, is_some, All, inl, inr, refl, sym, ap, ◌∙◌, zero-add}
use Rattle.std.specs.List.{list_all, range_with_len}
use Rattle.std.proofs.lemmas.Bool.{false≢true, true≢false, and_cases, cases_Bool, cond-false, cond-true}
use Rattle.std.proofs.lemmas.List.Elements.{All-cons, All-head, All-nil, All-tail}
use Rattle.std.proofs.lemmas.List.FromFn.{get_or-range_with_len, length-range_with_len}

module _ {X : Type 0} (p : X → Bool) where
  -- nothing is found only where each item fails
  pub fails_all : (xs : List X) → find p xs ≡ None → All (λ x. p x ≡ false) xs
  fails_all [] none = All-nil (λ x. p x ≡ false)
  fails_all (x ∷ xs) none = elim (cases_Bool (p x)) [
    | inl passes ↦ let found : find p (x ∷ xs) ≡ Some x = cond-true (p x) (Some x) (find p xs) passes in absurd (cc)
    | inr fails ↦
        All-cons (λ y. p y ≡ false) x xs fails (fails_all xs (sym (cond-false (p x) (Some x) (find p xs) fails) ∙ none))
  ]

  -- what is found passes, and is an item
  pub found_is : (P : X → Type 0) (xs : List X) → All P xs → is_some (find p xs) ≡ true → (x : X) × (find p xs ≡ Some x) × P x × (p x ≡ true)
  found_is P [] all some = absurd (false≢true some)
  found_is P (x ∷ xs) all some = elim (cases_Bool (p x)) [
    | inl passes ↦ (x, cond-true (p x) (Some x) (find p xs) passes, All-head P x xs all, passes)
    | inr fails ↦
        let same = cond-false (p x) (Some x) (find p xs) fails in
        let later = found_is P xs (All-tail P x xs all) (sym (ap is_some same) ∙ some) in
        (later.0, same ∙ later.1, later.2, later.3)
  ]

  -- an item that fails
  pub some_fails : (P : X → Type 0) (xs : List X) → All P xs → list_all p xs ≡ false → (x : X) × P x × (p x ≡ false)
  some_fails P [] all none = absurd (true≢false none)
  some_fails P (x ∷ xs) all none = elim (and_cases (p x) (list_all p xs) none) [
    | inl here ↦ (x, All-head P x xs all, here)
    | inr later ↦ some_fails P xs (All-tail P x xs all) later
  ]

-- the same among the numbers below one
module _ (p : ℕ → Bool) (n : ℕ) where
  pub number_fails : find p (range_with_len 0 n) ≡ None → (x : ℕ) → x < n → p x ≡ false
  number_fails none x low =
      let fails = fails_all p (range_with_len 0 n) none x x (rw (length-range_with_len 0 n) low) in
      ap p (sym (get_or-range_with_len 0 n x x low ∙ zero-add x)) ∙ fails

  pub number_found : (x : ℕ) → x < n → p x ≡ true → is_some (find p (range_with_len 0 n)) ≡ true
  number_found x low passes = at (find p (range_with_len 0 n)) refl
    where
      at : (found : Option ℕ) → find p (range_with_len 0 n) ≡ found → is_some found ≡ true
      at (Some y) is = refl
      at None is = absurd (false≢true (sym (number_fails is x low) ∙ passes))
