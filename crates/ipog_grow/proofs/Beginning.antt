-- The kept seeds and the slices that growth begins with.
use Rattle.std.proofs.Common.{◌≡◌, ℕ, ◌≤◌, true, not, List, [], ◌∷◌, map, length, Option, All, inl, inr, subst, arith}
use Rattle.std.specs.Prelude.{is_some}
use Rattle.std.specs.List.{list_any}
use Rattle.std.proofs.lemmas.Bool.{and_parts}
use Rattle.std.proofs.lemmas.List.{length-map}
use Rattle.std.proofs.lemmas.List.Elements.{All-map, All-filter}
use Rattle.value_text.proofs.ListLemmas.{length-filter-le}
use Rattle.cov_model.specs.declared.slice.Slice.{Slice}
use Rattle.cov_model.specs.declared.slice.Slice.TheVariants.{Negative}
use Rattle.cov_model.specs.believed.Sound.{ModelView}
use Rattle.cov_model.specs.Fits.{FitsModel}
use Rattle.cov_model.specs.believed.Meaning.{value_at}
use Rattle.cov_model.specs.believed.Slices.{negative_values, slices, slice_of, value_numbers}
use Rattle.cov_model.specs.believed.Valid.{param_numbers}
use Rattle.definitions.specs.believed.Completion.{can_be_served, has_slice, is_extendable}
use Rattle.definitions.specs.believed.Seeds.{is_same_row, distinct_by, kept_seeds, seed_rows}
use Rattle.definitions.specs.SliceRows.{IsSliceOf}
use Rattle.definitions.proofs.Members.{Has, all_members, of_flat, of_map, of_filter}
use Rattle.definitions.proofs.SliceLemmas.{of_params, of_numbers}
use Rattle.ipog_grow.proofs.Seeding.{seed_rows-fit}

-- each slice is one of the model's
pub slices_exist : (m : ModelView) → All (IsSliceOf m) (slices m)
slices_exist m = all_members (IsSliceOf m) (slices m) each
  where
    each : (slice : Slice) → Has (slices m) slice → IsSliceOf m slice
    each slice (inl is) = subst (IsSliceOf m) is tt
    each slice (inr has) =
        let at = of_flat (λ p. map (λ v. Negative p v) (negative_values m p)) (param_numbers m) slice has in
        let value = of_map (λ v. Negative at.0 v) (negative_values m at.0) slice at.2 in
        let kept = of_filter (λ v. (value_at m at.0 v).negative) (value_numbers m at.0) value.0 value.1 in
        subst (IsSliceOf m) value.2 (of_params m at.0 at.1, of_numbers m at.0 value.0 kept.0, kept.1)

-- the kept seeds fit the model
pub kept-fit : (m : ModelView) (seeds : List (ℕ × List (Option ℕ))) → All (λ seed. FitsModel m seed.1) seeds → All (FitsModel m) (kept_seeds m seeds)
kept-fit m seeds fit =
    All-filter (can_be_served m) (FitsModel m) (map (λ seed. seed.1) (seed_rows seeds))
    (All-map (FitsModel m) (λ seed. seed.1) (seed_rows seeds) (seed_rows-fit (λ seed. FitsModel m seed.1) seeds fit))

-- they have at most one negative value
pub kept-few : (m : ModelView) (seeds : List (ℕ × List (Option ℕ))) → All (λ seed. has_slice m seed ≡ true) (kept_seeds m seeds)
kept-few m seeds =
    all_members (λ seed. has_slice m seed ≡ true) (kept_seeds m seeds)
    (λ seed has. (and_parts (has_slice m seed) (is_extendable m (slice_of m seed) seed)
    (of_filter (can_be_served m) (map (λ s. s.1) (seed_rows seeds)) seed has).1).0)

distinct-short : {X : Type 0} (row : X → List (Option ℕ)) (xs : List X) → length (distinct_by row xs) ≤ length xs
distinct-short row [] = omega arith
distinct-short row (x ∷ xs) = omega (arith, length-filter-le (λ y. not (is_same_row (row x) (row y))) (distinct_by row xs), distinct-short row xs)

-- there are at most as many as seed rows
pub kept-short : (m : ModelView) (seeds : List (ℕ × List (Option ℕ))) → length (kept_seeds m seeds) ≤ length seeds
kept-short m seeds =
    omega (
      arith,
      length-filter-le (can_be_served m) (map (λ seed. seed.1) (seed_rows seeds)),
      length-map (seed_rows seeds) (λ seed. seed.1),
      length-filter-le (λ seed. list_any is_some seed.1) (distinct_by (λ seed. seed.1) seeds),
      distinct-short (λ seed. seed.1) seeds,
    )
