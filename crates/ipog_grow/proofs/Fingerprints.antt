-- Rows whose fingerprints all differ are distinct.
use Rattle.std.proofs.Common.{◌≡◌, ℕ, suc, ◌+◌, ◌<◌, ◌≤◌, Bool, true, false, not, cond, List, [], ◌∷◌, length, map, filter, get_or, All, Option}
use Rattle.std.proofs.Common.{IsPermutation, ◌∙◌, sym, ap, subst, refl, arith, inl, inr, nat_eq}
use Rattle.std.specs.List.{sum_by}
use Rattle.std.proofs.lemmas.Bool.{cases_eq}
use Rattle.std.proofs.lemmas.Bool.Decides.{nat_tests}
use Rattle.std.proofs.lemmas.List.Elements.{All-head, All-tail}
use Rattle.std.proofs.lemmas.List.Sorted.{sum_by-IsPermutation}
use Rattle.std.proofs.lemmas.List.Sums.{sum_by-cons}
use Rattle.definitions.specs.believed.Seeds.{distinct, is_same_row}
use Rattle.definitions.proofs.PartialRowLemmas.{same_row_is}
use Rattle.ipog_grow.specs.Fingerprints.{fingerprint}
use Rattle.ipog_grow.specs.Rows.{AreAsLong}

abbrev Row : Type 0
Row = List (Option ℕ)

-- how often a number is listed
abbrev one : ℕ → ℕ → ℕ
one v n = cond (nat_eq n v) 1 0

abbrev times : ℕ → List ℕ → ℕ
times v numbers = sum_by (one v) numbers

times_more : (v n : ℕ) (numbers : List ℕ) → times v (n ∷ numbers) ≡ one v n + times v numbers
times_more v n numbers = sum_by-cons (one v) n numbers

-- each number is less than the next one, read off the list
abbrev Chain : List ℕ → Type 0
Chain [] = Unit {0}
Chain (n ∷ []) = Unit {0}
Chain (n ∷ next ∷ numbers) = (n < next) × Chain (next ∷ numbers)

abbrev Rise : List ℕ → Type 0
Rise numbers = (k : ℕ) → k + 1 < length numbers → get_or numbers k 0 < get_or numbers (k + 1) 0

chain : (numbers : List ℕ) → Rise numbers → Chain numbers
chain [] rise = tt
chain (n ∷ []) rise = tt
chain (n ∷ next ∷ numbers) rise = (rise 0 (omega arith), chain (next ∷ numbers) later)
  where
    later : Rise (next ∷ numbers)
    later k within =
        let e : suc k + 1 ≡ suc (k + 1) = omega arith in
        subst (λ i. get_or (next ∷ numbers) k 0 < get_or (n ∷ next ∷ numbers) i 0) e (rise (suc k) (omega (arith, within)))

none_below : (v n : ℕ) (numbers : List ℕ) → v < n → Chain (n ∷ numbers) → times v (n ∷ numbers) ≡ 0
none_below v n [] less steps = times_more v n [] ∙ grind (arith, nat_tests)
none_below v n (next ∷ numbers) less steps =
    let later = none_below v next numbers (omega (arith, steps.0)) steps.1 in
    times_more v n (next ∷ numbers) ∙ grind (arith, nat_tests)

at_most_once : (v : ℕ) (numbers : List ℕ) → Chain numbers → times v numbers ≤ 1
at_most_once v [] steps = omega (arith, empty)
  where
    empty : times v [] ≡ 0
    empty = refl
at_most_once v (n ∷ []) steps = elim (cases_eq n v) [
  | inl same ↦ let first : one v n ≡ 1 = grind (arith, nat_tests) in omega (arith, times_more v n [], first, empty)
  | inr differs ↦ let first : one v n ≡ 0 = grind (arith, nat_tests) in omega (arith, times_more v n [], first, empty)
]
  where
    empty : times v [] ≡ 0
    empty = refl
at_most_once v (n ∷ next ∷ numbers) steps = elim (cases_eq n v) [
  | inl same ↦
      let later : times v (next ∷ numbers) ≡ 0 = none_below v next numbers (omega (arith, steps.0, same)) steps.1 in
      let first : one v n ≡ 1 = grind (arith, nat_tests) in
      omega (arith, times_more v n (next ∷ numbers), later, first)
  | inr differs ↦
      let first : one v n ≡ 0 = grind (arith, nat_tests) in
      omega (arith, times_more v n (next ∷ numbers), first, at_most_once v (next ∷ numbers) steps.1)
]

abbrev Once : List ℕ → Type 0
Once numbers = (v : ℕ) → times v numbers ≤ 1

module _ (n : ℕ) where
  abbrev Long : Row → Type 0
  Long row = length row ≡ n

  -- a fingerprint that no row has tells a row apart from all of them
  all_apart : (row : Row) (rows : List Row) → Long row → All Long rows → times (fingerprint row) (map fingerprint rows) ≡ 0
      → filter (λ other. not (is_same_row row other)) rows ≡ rows
  all_apart row [] is long none = refl
  all_apart row (other ∷ rows) is long none =
      ap (λ b. cond (not b) (other ∷ filter (λ next. not (is_same_row row next)) rows) (filter (λ next. not (is_same_row row next)) rows))
      (by_case (is_same_row row other) refl)
      ∙ ap (λ rest. other ∷ rest) (all_apart row rows is (All-tail Long other rows long) (omega (arith, none, more)))
    where
      more : times (fingerprint row) (fingerprint other ∷ map fingerprint rows) ≡ one (fingerprint row) (fingerprint other) + times (fingerprint row) (map fingerprint rows)
      more = times_more (fingerprint row) (fingerprint other) (map fingerprint rows)

      by_case : (b : Bool) → is_same_row row other ≡ b → is_same_row row other ≡ false
      by_case false same = same
      by_case true same =
          let equal : row ≡ other = same_row_is row other (is ∙ sym (All-head Long other rows long)) same in
          let numbers : fingerprint other ≡ fingerprint row = ap fingerprint (sym equal) in
          let first : one (fingerprint row) (fingerprint other) ≡ 1 = grind (arith, nat_tests) in
          absurd (omega (arith, none, more, first))

  all_distinct : (rows : List Row) → All Long rows → Once (map fingerprint rows) → distinct rows ≡ rows
  all_distinct [] long once = refl
  all_distinct (row ∷ rows) long once =
      ap (λ rest. row ∷ filter (λ other. not (is_same_row row other)) rest) (all_distinct rows (All-tail Long row rows long) (λ v. omega (arith, once v, more v)))
      ∙ ap (λ rest. row ∷ rest) (all_apart row rows (All-head Long row rows long) (All-tail Long row rows long) (omega (arith, once (fingerprint row), more (fingerprint row), first)))
    where
      more : (v : ℕ) → times v (fingerprint row ∷ map fingerprint rows) ≡ one v (fingerprint row) + times v (map fingerprint rows)
      more v = times_more v (fingerprint row) (map fingerprint rows)

      first : one (fingerprint row) (fingerprint row) ≡ 1
      first = grind (arith, nat_tests)

pub apart_distinct : (rows : List Row) (numbers : List ℕ) → AreAsLong rows → IsPermutation (map fingerprint rows) numbers → Rise numbers → distinct rows ≡ rows
apart_distinct rows numbers long moved rise =
    all_distinct (length (get_or rows 0 [])) rows long (λ v. subst (λ k. k ≤ 1) (sum_by-IsPermutation (one v) (map fingerprint rows) numbers moved)
    (at_most_once v numbers (chain numbers rise)))
