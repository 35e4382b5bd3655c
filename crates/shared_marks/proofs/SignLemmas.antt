-- Models without a negative value.
use Rattle.std.proofs.Common.{inl, inr, ◌≡◌, ℕ, zero, suc, ◌+◌, ◌<◌, ◌≤◌, Bool, true, false, ◌&&◌, not, cond, List, [], ◌∷◌, map, length, get_or, All, Option, ◌∙◌, refl, ap, arith, zero-add}
use Rattle.std.specs.List.{filter, range_with_len}
use Rattle.std.proofs.lemmas.Bool.{cases_eq, not-true}
use Rattle.std.proofs.lemmas.List.Elements.{All-from_get_or, All-map}
use Rattle.std.proofs.lemmas.List.FromFn.{get_or-range_with_len, length-range_with_len}
use Rattle.value_text.proofs.ListLemmas.{length-filter-le}
use Rattle.cov_model.specs.Fits.{FitsModel}
use Rattle.cov_model.specs.declared.slice.Slice.TheVariants.{Positive}
use Rattle.cov_model.specs.believed.Meaning.{given_value, value_at}
use Rattle.cov_model.specs.believed.Rows.{is_assigned, value_in}
use Rattle.cov_model.specs.believed.Slices.{slice_by, slice_of}
use Rattle.cov_model.specs.believed.Sound.{ModelView, param_at}
use Rattle.cov_model.specs.believed.Valid.{param_numbers}
use Rattle.definitions.proofs.Nothing.{nothing_kept}
use Rattle.row_text.specs.declared.row_file.FileRow.{FileRow}
use Rattle.shared_marks.specs.TestColumns.{HasNoNegative, is_positive}
use Rattle.shared_marks.specs.Served.{is_served_at}
use Rattle.shared_marks.proofs.PlaceLemmas.{none_served}

-- where as many numbers pass as there are, each passes
all_pass : (f : ℕ → Bool) (a n v : ℕ) → length (filter f (range_with_len a n)) ≡ n → a ≤ v → v < a + n → f v ≡ true
all_pass f a zero v whole from below = absurd (omega (arith, from, below))
all_pass f a (suc n) v whole from below = by_test (f a) refl whole (λ rest later. all_pass f (a + 1) n v rest later (omega (arith, below)))
  where
    by_test : (b : Bool) → f a ≡ b → length (cond b (a ∷ filter f (range_with_len (a + 1) n)) (filter f (range_with_len (a + 1) n))) ≡ suc n
        → (length (filter f (range_with_len (a + 1) n)) ≡ n → a + 1 ≤ v → f v ≡ true) → f v ≡ true
    by_test true first whole next = elim (cases_eq v a) [
      | inl same ↦ ap f same ∙ first
      | inr apart ↦ next (omega (arith, whole)) (omega (arith, from, apart))
    ]
    by_test false first whole next = absurd (omega (arith, whole, length-filter-le f (range_with_len (a + 1) n), length-range_with_len (a + 1) n))

-- a row has none
pub no_negative : (m : ModelView) (cells : List (Option ℕ)) → HasNoNegative m → FitsModel m cells → slice_of m cells ≡ Positive
no_negative m cells none fits =
    ap (slice_by cells) (nothing_kept is_given (param_numbers m) (All-from_get_or (λ p. is_given p ≡ false) (param_numbers m) 0 (λ i within.
    let inside : i < length m.params = omega (arith, within, length-range_with_len 0 (length m.params)) in
    ap is_given (get_or-range_with_len 0 (length m.params) i 0 inside ∙ zero-add i) ∙ by_value i inside (is_assigned cells i) refl)))
  where
    is_given : ℕ → Bool
    is_given p = is_assigned cells p && (given_value m cells p).negative

    by_value : (p : ℕ) → p < length m.params → (b : Bool) → is_assigned cells p ≡ b → (is_assigned cells p && (given_value m cells p).negative) ≡ false
    by_value p inside false is = ap (λ b. b && (given_value m cells p).negative) is
    by_value p inside true is =
        ap (λ b. b && (given_value m cells p).negative) is
        ∙ not-true (given_value m cells p).negative
        (all_pass (λ v. not (value_at m p v).negative) 0 (length (param_at m.params p).values) (value_in cells p) (none p inside) (omega arith)
        (omega (arith, fits.exist p is)))

-- and no row that serves anything has one
pub none_by_negative : (m : ModelView) (rows : List FileRow) → HasNoNegative m → All (λ row. FitsModel m row.cells) rows → (place : ℕ)
    → is_served_at m (filter (λ cells. not (is_positive (slice_of m cells))) (map (λ row. row.cells) rows)) place ≡ false
none_by_negative m rows none fits place =
    ap (λ served. is_served_at m served place) (nothing_kept (λ cells. not (is_positive (slice_of m cells))) (map (λ (row : FileRow). row.cells) rows)
    (All-map (λ cells. not (is_positive (slice_of m cells)) ≡ false) (λ (row : FileRow). row.cells) rows
    (λ i row within. ap (λ slice. not (is_positive slice)) (no_negative m (get_or rows i row).cells none (fits i row within)))))
    ∙ none_served m [] place refl
