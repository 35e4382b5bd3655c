-- The growth of a slice, finished: each partial row becomes its first completion.
use Rattle.std.proofs.Common.{◌≡◌, ℕ, ◌+◌, ◌≤◌, true, not, List, [], ◌∷◌, map, length, Option, Some, inl, ◌∙◌, ap, subst, refl, arith}
use Rattle.std.specs.Prelude.{◌==◌, filter_map}
use Rattle.std.specs.List.{filter, flat_map, list_all}
use Rattle.std.proofs.lemmas.Bool.{and_parts, and_from, eq-eqb}
use Rattle.cov_model.specs.declared.slice.Slice.{Slice}
use Rattle.cov_model.specs.believed.Sound.{ModelView}
use Rattle.cov_model.specs.believed.Rows.{contains, value_in}
use Rattle.cov_model.specs.believed.Valid.{negatives}
use Rattle.cov_model.specs.believed.Slices.{slice_values, slice_by, slice_of}
use Rattle.cov_model.proofs.CellLemmas.{contains-refl, contains-trans}
use Rattle.definitions.specs.believed.Demand.{is_among}
use Rattle.definitions.specs.believed.Completion.{completions, column_order, preferred_values, meets_rules, is_extendable, first_completion, has_slice, can_be_served}
use Rattle.definitions.specs.believed.Seeds.{distinct, kept_seeds, seed_rows}
use Rattle.definitions.specs.believed.Growth.{Grown, columns, tuples_in_play, is_of_slice, slice_growth}
use Rattle.cov_model.specs.Preference.{OrdersValues}
use Rattle.definitions.proofs.Members.{Has, of_filter, has_given, of_given, any_member, of_any, all_pass, passes_all, of_find, find_some, among_has}
use Rattle.definitions.proofs.Choices.{IsChoice, choice_completes, completion_is}
use Rattle.definitions.proofs.SliceLemmas.{IsSlice}
use Rattle.definitions.proofs.PartialRowLemmas.{of_slice-is}
use Rattle.definitions.proofs.Preferred.{preferred_are_values, values_are_preferred}
use Rattle.definitions.proofs.Keeping.{is_held}
use Rattle.definitions.proofs.Settling.{columns_settle}
use Rattle.definitions.proofs.Once.{AreApart, distinct_apart, of_distinct, has_distinct, few_distinct, few_given}

-- a row of the slice that meets every constraint
pub record IsSliceRow (m : ModelView) (slice : Slice) (row : List (Option ℕ)) : Type 0 where
  pub choice : IsChoice (slice_values m slice) row
  pub meets : meets_rules m row ≡ true

-- the first completion is a row of the slice
pub record Completes (m : ModelView) (slice : Slice) (cells row : List (Option ℕ)) : Type 0 where
  pub is : IsSliceRow m slice row
  pub contained : contains row cells ≡ true

pub completes : (m : ModelView) (pref : List (List ℕ)) (slice : Slice) (cells row : List (Option ℕ)) → first_completion m pref slice cells ≡ Some row
    → Completes m slice cells row
completes m pref slice cells row first =
    let found = of_find (meets_rules m) (completions (preferred_values m pref slice) cells) row first in
    let chosen = completion_is (preferred_values m pref slice) cells row found.0 in
    record { is = record { choice = preferred_are_values m pref slice row chosen.choice; meets = found.1 }; contained = chosen.contained }

-- and each extendable partial row has one
pub extendable_completes : (m : ModelView) (pref : List (List ℕ)) (slice : Slice) (cells : List (Option ℕ)) → OrdersValues m pref → IsSlice m slice
    → is_extendable m slice cells ≡ true
    → (row : List (Option ℕ)) × (first_completion m pref slice cells ≡ Some row)
extendable_completes m pref slice cells orders is extends =
    let some = of_any (meets_rules m) (completions (slice_values m slice) cells) extends in
    let chosen = completion_is (slice_values m slice) cells some.0 some.1 in
    find_some (meets_rules m) (completions (preferred_values m pref slice) cells) some.0
    (choice_completes (preferred_values m pref slice) cells some.0 (values_are_preferred m pref slice some.0 orders is chosen.choice) chosen.contained) some.2

-- the completed rows, equal ones once
abbrev pub finished : ModelView → List (List ℕ) → Slice → List (List (Option ℕ)) → List (List (Option ℕ))
finished m pref slice rows = distinct (filter_map (first_completion m pref slice) rows)

pub finished_row : (m : ModelView) (pref : List (List ℕ)) (slice : Slice) (rows : List (List (Option ℕ))) (row : List (Option ℕ))
    → Has (finished m pref slice rows) row → IsSliceRow m slice row
finished_row m pref slice rows row has =
    let given = of_given (first_completion m pref slice) rows row (of_distinct (filter_map (first_completion m pref slice) rows) row has) in
    (completes m pref slice given.0 row given.2).is

-- hold what the partial rows held
pub finished_held : (m : ModelView) (pref : List (List ℕ)) (slice : Slice) (rows : List (List (Option ℕ))) (tuple : List (Option ℕ)) → OrdersValues m pref
    → IsSlice m slice
    → list_all (is_extendable m slice) rows ≡ true → is_held rows tuple ≡ true → is_held (finished m pref slice rows) tuple ≡ true
finished_held m pref slice rows tuple orders is all held =
    let holder = of_any (λ row. contains row tuple) rows held in
    let first = extendable_completes m pref slice holder.0 orders is (passes_all (is_extendable m slice) rows holder.0 all holder.1) in
    let done = completes m pref slice holder.0 first.0 first.1 in
    let kept = has_distinct (filter_map (first_completion m pref slice) rows) first.0
    (has_given (first_completion m pref slice) rows holder.0 first.0 holder.1 first.1) in
    let same = and_parts (contains kept.0 first.0) (contains first.0 kept.0) kept.2 in
    any_member (λ row. contains row tuple) (finished m pref slice rows) kept.0 kept.1
    (contains-trans kept.0 first.0 tuple same.0 (contains-trans first.0 holder.0 tuple done.contained holder.2))

pub few_finished : (m : ModelView) (pref : List (List ℕ)) (slice : Slice) (rows : List (List (Option ℕ))) → length (finished m pref slice rows) ≤ length rows
few_finished m pref slice rows = omega (arith, few_distinct (filter_map (first_completion m pref slice) rows), few_given (first_completion m pref slice) rows)

-- a kept seed of a slice is extendable there
pub is_of_own_slice : (m : ModelView) (cells : List (Option ℕ)) → is_of_slice m (slice_of m cells) cells ≡ true
is_of_own_slice m cells = at (negatives m cells) refl
  where
    at : (ps : List ℕ) → negatives m cells ≡ ps → is_of_slice m (slice_by cells ps) cells ≡ true
    at [] are = ap (λ ps. length ps == 0) are
    at (p ∷ ps) are =
        and_from (is_among (negatives m cells) p) (value_in cells p == value_in cells p) (ap (λ ps. is_among ps p) are ∙ among_has (p ∷ ps) p (inl refl))
        (eq-eqb (value_in cells p) (value_in cells p) refl)

pub record IsKeptSeed (m : ModelView) (seed : List (Option ℕ)) : Type 0 where
  pub few : has_slice m seed ≡ true
  pub extends : is_extendable m (slice_of m seed) seed ≡ true

pub kept_is : (m : ModelView) (seeds : List (ℕ × List (Option ℕ))) (seed : List (Option ℕ)) → Has (kept_seeds m seeds) seed → IsKeptSeed m seed
kept_is m seeds seed has =
    let kept = of_filter (can_be_served m) (map (λ seed. seed.1) (seed_rows seeds)) seed has in
    let parts = and_parts (has_slice m seed) (is_extendable m (slice_of m seed) seed) kept.1 in
    record { few = parts.0; extends = parts.1 }

-- the kept seeds of a slice, and the tuples that it meets
abbrev pub seeds_of : ModelView → List (ℕ × List (Option ℕ)) → Slice → List (List (Option ℕ))
seeds_of m seeds slice = filter (is_of_slice m slice) (kept_seeds m seeds)

abbrev pub met_in : ModelView → Slice → List (List (Option ℕ))
met_in m slice = flat_map (tuples_in_play m slice) (column_order m slice)

seeds_extend : (m : ModelView) (seeds : List (ℕ × List (Option ℕ))) (slice : Slice) → list_all (is_extendable m slice) (seeds_of m seeds slice) ≡ true
seeds_extend m seeds slice =
    all_pass (is_extendable m slice) (seeds_of m seeds slice) (λ seed has.
    let kept = of_filter (is_of_slice m slice) (kept_seeds m seeds) seed has in
    let is = kept_is m seeds seed kept.0 in
    subst (λ s. is_extendable m s seed ≡ true) (of_slice-is m slice seed is.few kept.1) is.extends)

-- what the growth of a slice gives
pub record IsSliceGrowth (m : ModelView) (seeds : List (ℕ × List (Option ℕ))) (slice : Slice) (grown : Grown) : Type 0 where
  pub rows : (row : List (Option ℕ)) → Has grown.rows row → IsSliceRow m slice row
  pub apart : AreApart grown.rows
  pub omitted : grown.omitted ≡ filter (λ tuple. not (is_extendable m slice tuple)) (met_in m slice)
  pub served : (tuple : List (Option ℕ)) → Has (met_in m slice) tuple → is_extendable m slice tuple ≡ true → is_held grown.rows tuple ≡ true
  pub kept : (seed : List (Option ℕ)) → Has (seeds_of m seeds slice) seed → is_held grown.rows seed ≡ true
  pub few : length grown.rows ≤ length (seeds_of m seeds slice) + length (filter (is_extendable m slice) (met_in m slice))

pub slice_grows : (m : ModelView) (pref : List (List ℕ)) (seeds : List (ℕ × List (Option ℕ))) (slice : Slice) → OrdersValues m pref → IsSlice m slice
    → IsSliceGrowth m seeds slice (slice_growth m pref seeds slice)
slice_grows m pref seeds slice orders is =
    let grown = columns m pref slice (column_order m slice) (seeds_of m seeds slice) in
    let settled = columns_settle m pref slice (column_order m slice) (seeds_of m seeds slice) (seeds_extend m seeds slice) in
    let all = settled.keeps.all (seeds_extend m seeds slice) in
    record {
      rows = finished_row m pref slice grown.rows;
      apart = distinct_apart (filter_map (first_completion m pref slice) grown.rows);
      omitted = settled.omitted;
      served = λ tuple has extends. finished_held m pref slice grown.rows tuple orders is all (settled.served tuple has extends);
      kept = λ seed has. finished_held m pref slice grown.rows seed orders is all
          (settled.keeps.held seed (any_member (λ row. contains row seed) (seeds_of m seeds slice) seed has (contains-refl seed)));
      few = omega (arith, few_finished m pref slice grown.rows, settled.few);
    }
