-- Rows without their repeats.
use Rattle.std.proofs.Common.{◌≡◌, ℕ, zero, suc, ◌<◌, ◌≤◌, Bool, true, false, not, cond, List, [], ◌∷◌}
use Rattle.std.proofs.Common.{◌++◌, length, get_or, Option, Some, None, inl, inr, subst, refl, arith}
use Rattle.std.specs.Prelude.{AllPairs, filter_map}
use Rattle.std.specs.List.{cons_option, filter}
use Rattle.std.proofs.lemmas.Bool.{cases_Bool, not-true, not_from_false}
use Rattle.value_text.proofs.ListLemmas.{length-filter-le}
use Rattle.definitions.specs.believed.Seeds.{is_same_row, distinct}
use Rattle.definitions.proofs.Members.{Has, has_filter, of_append, of_filter}
use Rattle.definitions.proofs.PartialRowLemmas.{same-refl, same-trans}

-- no row is the same as a later one
abbrev pub AreApart : List (List (Option ℕ)) → Type 0
AreApart [] = Unit {0}
AreApart (row ∷ rows) = ((other : List (Option ℕ)) → Has rows other → is_same_row row other ≡ false) × AreApart rows

pub apart_pairs : (rows : List (List (Option ℕ))) → AreApart rows → AllPairs (λ a b. is_same_row a b ≡ false) rows
apart_pairs [] apart i j d before within = absurd (omega arith)
apart_pairs (row ∷ rows) apart zero zero d before within = absurd (omega arith)
apart_pairs (row ∷ rows) apart (suc i) zero d before within = absurd (omega arith)
apart_pairs (row ∷ rows) apart zero (suc j) d before within = apart.0 (get_or rows j d) (member rows j d (omega arith))
  where
    member : (rows : List (List (Option ℕ))) (j : ℕ) (d : List (Option ℕ)) → j < length rows → Has rows (get_or rows j d)
    member [] j d within = absurd (omega arith)
    member (row ∷ rows) zero d within = inl refl
    member (row ∷ rows) (suc j) d within = inr (member rows j d (omega arith))
apart_pairs (row ∷ rows) apart (suc i) (suc j) d before within = apart_pairs rows apart.1 i j d (omega arith) (omega arith)

pub apart_filter : (test : List (Option ℕ) → Bool) (rows : List (List (Option ℕ))) → AreApart rows → AreApart (filter test rows)
apart_filter test [] apart = tt
apart_filter test (row ∷ rows) apart = at (test row) (λ other has. apart.0 other (of_filter test rows other has).0) (apart_filter test rows apart.1)
  where
    at : (b : Bool) → ((other : List (Option ℕ)) → Has (filter test rows) other → is_same_row row other ≡ false) → AreApart (filter test rows)
        → AreApart (cond b (row ∷ filter test rows) (filter test rows))
    at true own later = (own, later)
    at false own later = later

pub apart_append : (rows others : List (List (Option ℕ))) → AreApart rows → AreApart others
    → ((row other : List (Option ℕ)) → Has rows row → Has others other → is_same_row row other ≡ false) → AreApart (rows ++ others)
apart_append [] others first second between = second
apart_append (row ∷ rows) others first second between = (
  λ other has. elim (of_append rows others other has) [ inl here ↦ first.0 other here | inr there ↦ between row other (inl refl) there ],
  apart_append rows others first.1 second (λ a b has later. between a b (inr has) later),
)

-- the distinct rows
pub distinct_apart : (rows : List (List (Option ℕ))) → AreApart (distinct rows)
distinct_apart [] = tt
distinct_apart (row ∷ rows) = (
  λ other has. not-true (is_same_row row other) (of_filter (λ other. not (is_same_row row other)) (distinct rows) other has).1,
  apart_filter (λ other. not (is_same_row row other)) (distinct rows) (distinct_apart rows),
)

pub of_distinct : (rows : List (List (Option ℕ))) (row : List (Option ℕ)) → Has (distinct rows) row → Has rows row
of_distinct [] row has = absurd has
of_distinct (first ∷ rows) row (inl same) = inl same
of_distinct (first ∷ rows) row (inr has) = inr (of_distinct rows row (of_filter (λ other. not (is_same_row first other)) (distinct rows) row has).0)

-- a row among the distinct ones is the same as each row
pub has_distinct : (rows : List (List (Option ℕ))) (row : List (Option ℕ)) → Has rows row
    → (kept : List (Option ℕ)) × Has (distinct rows) kept × (is_same_row kept row ≡ true)
has_distinct [] row has = absurd has
has_distinct (first ∷ rows) row (inl same) = (first, inl refl, subst (λ r. is_same_row first r ≡ true) same (same-refl first))
has_distinct (first ∷ rows) row (inr has) =
    let later = has_distinct rows row has in
    elim (cases_Bool (is_same_row first later.0)) [
      | inl equal ↦ (first, inl refl, same-trans first later.0 row equal later.2)
      | inr differs ↦
          (later.0, inr (has_filter (λ other. not (is_same_row first other)) (distinct rows) later.0 later.1 (not_from_false (is_same_row first later.0) differs)), later.2)
    ]

pub few_distinct : (rows : List (List (Option ℕ))) → length (distinct rows) ≤ length rows
few_distinct [] = omega arith
few_distinct (row ∷ rows) = omega (arith, length-filter-le (λ other. not (is_same_row row other)) (distinct rows), few_distinct rows)

pub few_given : {X Y : Type 0} (h : X → Option Y) (xs : List X) → length (filter_map h xs) ≤ length xs
few_given h [] = omega arith
few_given {X} {Y} h (x ∷ xs) = at (h x) (few_given h xs)
  where
    at : (o : Option Y) → length (filter_map h xs) ≤ length xs → length (cons_option o (filter_map h xs)) ≤ suc (length xs)
    at None later = omega arith
    at (Some y) later = omega arith
