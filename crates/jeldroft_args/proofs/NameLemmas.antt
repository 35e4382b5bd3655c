-- Names among names.
use Rattle.std.proofs.Common.{◌≡◌, ◌∙◌, ◌||◌, ◌+◌, ◌<◌, ◌≤◌, ℕ, Bool, true, false, List, Option, Some, None, ap, sym, length, drop, map}
use Rattle.std.specs.Borrow.{Bor}
use Rattle.std.specs.Prelude.{cond}
use Rattle.std.specs.List.{list_any, slice_index_or}
use Rattle.std.proofs.lemmas.List.{drop_all, drop_more}
use Rattle.jeldroft_args.specs.believed.Names.{is_same_name, overwritten}

abbrev pub texts_in : List (Bor (List ℕ)) → List (List ℕ)
texts_in = map (λ n. n.now)

module _ (p : List ℕ → Bool) (xs : List (Bor (List ℕ))) (i : ℕ) (d : Bor (List ℕ)) (all : Bool) (lt : i < length xs)
    (so_far : list_any p (texts_in (drop i xs)) ≡ all) where
  any_step : (p (slice_index_or xs i d).now || list_any p (texts_in (drop (i + 1) xs))) ≡ all
  any_step = ap (λ ys. list_any p (texts_in ys)) (sym (drop_more xs i d lt)) ∙ so_far

  pub any_found : p (slice_index_or xs i d).now ≡ true → true ≡ all
  any_found is = ap (λ b. b || list_any p (texts_in (drop (i + 1) xs))) (sym is) ∙ any_step

  pub any_passed : p (slice_index_or xs i d).now ≡ false → list_any p (texts_in (drop (i + 1) xs)) ≡ all
  any_passed is = ap (λ b. b || list_any p (texts_in (drop (i + 1) xs))) (sym is) ∙ any_step

pub any_none : (p : List ℕ → Bool) (xs : List (Bor (List ℕ))) (i : ℕ) (all : Bool) → length xs ≤ i
    → list_any p (texts_in (drop i xs)) ≡ all → false ≡ all
any_none p xs i all le so_far = ap (λ ys. list_any p (texts_in ys)) (sym (drop_all i xs le)) ∙ so_far

abbrev pub is_overwritten : List (List ℕ) → List ℕ → List (List ℕ) → Bool
is_overwritten inputs output later = list_any (is_same_name output) inputs || list_any (is_same_name output) later

module _ (inputs : List (List ℕ)) (xs : List (Bor (List ℕ))) (i : ℕ) (d : Bor (List ℕ)) (all : Option (List ℕ)) (lt : i < length xs)
    (so_far : overwritten inputs (texts_in (drop i xs)) ≡ all) where
  output_step : cond (is_overwritten inputs (slice_index_or xs i d).now (texts_in (drop (i + 1) xs))) (Some (slice_index_or xs i d).now)
      (overwritten inputs (texts_in (drop (i + 1) xs))) ≡ all
  output_step = ap (λ ys. overwritten inputs (texts_in ys)) (sym (drop_more xs i d lt)) ∙ so_far

  pub output_found : is_overwritten inputs (slice_index_or xs i d).now (texts_in (drop (i + 1) xs)) ≡ true → Some (slice_index_or xs i d).now ≡ all
  output_found is = ap (λ b. cond b (Some (slice_index_or xs i d).now) (overwritten inputs (texts_in (drop (i + 1) xs)))) (sym is) ∙ output_step

  pub output_passed : is_overwritten inputs (slice_index_or xs i d).now (texts_in (drop (i + 1) xs)) ≡ false
      → overwritten inputs (texts_in (drop (i + 1) xs)) ≡ all
  output_passed is = ap (λ b. cond b (Some (slice_index_or xs i d).now) (overwritten inputs (texts_in (drop (i + 1) xs)))) (sym is) ∙ output_step

pub output_none : (inputs : List (List ℕ)) (xs : List (Bor (List ℕ))) (i : ℕ) (all : Option (List ℕ)) → length xs ≤ i
    → overwritten inputs (texts_in (drop i xs)) ≡ all → None ≡ all
output_none inputs xs i all le so_far = ap (λ ys. overwritten inputs (texts_in ys)) (sym (drop_all i xs le)) ∙ so_far
