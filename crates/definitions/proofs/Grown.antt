-- What the growth of a suite gives.
use Rattle.std.proofs.Common.{◌≡◌, ℕ, true, false, not, List, [], ◌∷◌, ◌++◌, map, length, Option, ◌∙◌, sym, ap, subst, refl}
use Rattle.std.specs.List.{flat_map}
use Rattle.std.proofs.lemmas.Bool.{not-true, not_from_false}
use Rattle.cov_model.specs.declared.slice.Slice.{Slice}
use Rattle.cov_model.specs.declared.slice.Slice.TheVariants.{Positive, Negative}
use Rattle.cov_model.specs.believed.Sound.{ModelView, IsSound, param_at}
use Rattle.cov_model.specs.believed.Valid.{param_numbers}
use Rattle.cov_model.specs.believed.Slices.{slices, slice_of, negative_values, value_numbers}
use Rattle.cov_model.specs.believed.Meaning.{value_at}
use Rattle.cov_model.proofs.CellLemmas.{length-slice_values}
use Rattle.definitions.specs.believed.Demand.{demanded_sets, demanded_tuples, tuples_in, tuples_of}
use Rattle.definitions.specs.believed.Completion.{has_slice, is_extendable}
use Rattle.definitions.specs.believed.Growth.{slice_growth, slices_growth, growth}
use Rattle.cov_model.specs.Preference.{OrdersValues}
use Rattle.definitions.proofs.Members.{Has, of_map, has_flat, of_flat, has_filter, of_filter}
use Rattle.definitions.proofs.Distinct.{NoRepeats, repeats_filter, repeats_range, repeats_map, repeats_flat}
use Rattle.definitions.proofs.SliceLemmas.{IsSlice, is_slice, has_slices, slice_is, slice_of_is}
pub use Rattle.definitions.proofs.PartialRowLemmas.{same_row_is}
use Rattle.definitions.proofs.Finishing.{IsSliceRow, slice_grows, met_in}
use Rattle.definitions.proofs.InPlay.{tuple_is, has_met, of_met}

-- the slices are distinct
pub slices_once : (m : ModelView) → NoRepeats (slices m)
slices_once m = (
  λ has.
      let by_param = of_flat (λ p. map (λ v. Negative p v) (negative_values m p)) (param_numbers m) Positive has in
      let by_value = of_map (λ v. Negative by_param.0 v) (negative_values m by_param.0) Positive by_param.2 in
      apart by_param.0 by_value.0 by_value.2,
  repeats_flat (λ p. map (λ v. Negative p v) (negative_values m p)) (param_numbers m)
      (λ p has. repeats_map (λ v. Negative p v) (negative_values m p) (same_value p)
      (repeats_filter (λ v. (value_at m p v).negative) (value_numbers m p) (repeats_range 0 (length (param_at m.params p).values))))
      (λ p q slice first second here there.
      let one = of_map (λ v. Negative p v) (negative_values m p) slice here in
      let other = of_map (λ v. Negative q v) (negative_values m q) slice there in
      same_param p q one.0 other.0 (one.2 ∙ sym other.2))
      (repeats_range 0 (length m.params)),
)
  where
    apart : (p v : ℕ) → Negative p v ≡ Positive → ⊥
    apart p v e = cc

    same_value : (p v w : ℕ) → Negative p v ≡ Negative p w → v ≡ w
    same_value p v w e = cc

    same_param : (p q v w : ℕ) → Negative p v ≡ Negative q w → p ≡ q
    same_param p q v w e = cc

-- the suite and the omission list, slice by slice
abbrev pub rows_of_slice : ModelView → List (List ℕ) → List (ℕ × List (Option ℕ)) → Slice → List (List (Option ℕ))
rows_of_slice m pref seeds slice = (slice_growth m pref seeds slice).rows

abbrev pub omitted_in_slice : ModelView → List (List ℕ) → List (ℕ × List (Option ℕ)) → Slice → List (List (Option ℕ))
omitted_in_slice m pref seeds slice = (slice_growth m pref seeds slice).omitted

pub rows_by_slice : (m : ModelView) (pref : List (List ℕ)) (seeds : List (ℕ × List (Option ℕ))) (parts : List Slice)
    → (slices_growth m pref seeds parts).rows ≡ flat_map (rows_of_slice m pref seeds) parts
rows_by_slice m pref seeds [] = refl
rows_by_slice m pref seeds (slice ∷ parts) = ap (λ rows. rows_of_slice m pref seeds slice ++ rows) (rows_by_slice m pref seeds parts)

pub omitted_by_slice : (m : ModelView) (pref : List (List ℕ)) (seeds : List (ℕ × List (Option ℕ))) (parts : List Slice)
    → (slices_growth m pref seeds parts).omitted ≡ flat_map (omitted_in_slice m pref seeds) parts
omitted_by_slice m pref seeds [] = refl
omitted_by_slice m pref seeds (slice ∷ parts) = ap (λ tuples. omitted_in_slice m pref seeds slice ++ tuples) (omitted_by_slice m pref seeds parts)

-- a row of the suite is a row of a slice
pub record IsGrownRow (m : ModelView) (pref : List (List ℕ)) (seeds : List (ℕ × List (Option ℕ))) (row : List (Option ℕ)) : Type 0 where
  pub slice : Slice
  pub is : IsSlice m slice
  pub row_of : IsSliceRow m slice row

pub of_rows : (m : ModelView) (pref : List (List ℕ)) (seeds : List (ℕ × List (Option ℕ))) (row : List (Option ℕ)) → OrdersValues m pref
    → Has (growth m pref seeds).rows row
    → IsGrownRow m pref seeds row
of_rows m pref seeds row orders has =
    let found = of_flat (rows_of_slice m pref seeds) (slices m) row (subst (λ rows. Has rows row) (rows_by_slice m pref seeds (slices m)) has) in
    let is = is_slice m found.0 found.1 in
    record { slice = found.0; is = is; row_of = (slice_grows m pref seeds found.0 orders is).rows row found.2 }

pub has_rows : (m : ModelView) (pref : List (List ℕ)) (seeds : List (ℕ × List (Option ℕ))) (slice : Slice) (row : List (Option ℕ)) → IsSlice m slice
    → Has (rows_of_slice m pref seeds slice) row → Has (growth m pref seeds).rows row
has_rows m pref seeds slice row is has =
    subst (λ rows. Has rows row) (sym (rows_by_slice m pref seeds (slices m)))
    (has_flat (rows_of_slice m pref seeds) (slices m) slice row (has_slices m slice is) has)

-- a demanded tuple, its set and its slice
pub record IsDemanded (m : ModelView) (tuple : List (Option ℕ)) : Type 0 where
  pub set : List ℕ
  pub demanded : Has (demanded_sets m) set
  pub has : Has (tuples_in m set (slice_of m tuple)) tuple
  pub few : has_slice m tuple ≡ true
  pub long : length tuple ≡ length m.params

pub demanded_in : (m : ModelView) (set : List ℕ) (slice : Slice) (tuple : List (Option ℕ)) → IsSlice m slice → Has (demanded_sets m) set
    → Has (tuples_in m set slice) tuple → IsDemanded m tuple
demanded_in m set slice tuple is demanded has =
    let own = tuple_is m set slice tuple is has in
    let of = slice_is m slice tuple is own.belongs in
    record {
      set = set;
      demanded = demanded;
      has = subst (λ s. Has (tuples_in m set s) tuple) (sym of.is) has;
      few = of.few;
      long = own.choice.long ∙ length-slice_values m slice;
    }

pub of_demanded : (m : ModelView) (tuple : List (Option ℕ)) → Has (demanded_tuples m) tuple → IsDemanded m tuple
of_demanded m tuple has =
    let by_set = of_flat (tuples_of m) (demanded_sets m) tuple has in
    let by_slice = of_flat (tuples_in m by_set.0) (slices m) tuple by_set.2 in
    demanded_in m by_set.0 by_slice.0 tuple (is_slice m by_slice.0 by_slice.1) by_set.1 by_slice.2

pub has_demanded : (m : ModelView) (tuple : List (Option ℕ)) → IsDemanded m tuple → Has (demanded_tuples m) tuple
has_demanded m tuple is =
    has_flat (tuples_of m) (demanded_sets m) is.set tuple is.demanded
    (has_flat (tuples_in m is.set) (slices m) (slice_of m tuple) tuple (has_slices m (slice_of m tuple) (slice_of_is m tuple)) is.has)

-- the omitted tuples are the demanded ones that aren't extendable
pub record IsOmitted (m : ModelView) (tuple : List (Option ℕ)) : Type 0 where
  pub demanded : IsDemanded m tuple
  pub fails : is_extendable m (slice_of m tuple) tuple ≡ false

pub of_omitted : (m : ModelView) (pref : List (List ℕ)) (seeds : List (ℕ × List (Option ℕ))) (tuple : List (Option ℕ)) → OrdersValues m pref
    → Has (growth m pref seeds).omitted tuple
    → IsOmitted m tuple
of_omitted m pref seeds tuple orders has =
    let found = of_flat (omitted_in_slice m pref seeds) (slices m) tuple (subst (λ tuples. Has tuples tuple) (omitted_by_slice m pref seeds (slices m)) has) in
    let slice = found.0 in
    let is = is_slice m slice found.1 in
    let left = subst (λ tuples. Has tuples tuple) (slice_grows m pref seeds slice orders is).omitted found.2 in
    let kept = of_filter (λ tuple. not (is_extendable m slice tuple)) (met_in m slice) tuple left in
    let met = of_met m slice tuple kept.0 in
    let of = slice_is m slice tuple is (tuple_is m met.set slice tuple is met.has).belongs in
    record {
      demanded = demanded_in m met.set slice tuple is met.demanded met.has;
      fails = ap (λ s. is_extendable m s tuple) of.is ∙ not-true (is_extendable m slice tuple) kept.1;
    }

pub has_omitted : (m : ModelView) (pref : List (List ℕ)) (seeds : List (ℕ × List (Option ℕ))) (tuple : List (Option ℕ)) → IsSound m → OrdersValues m pref
    → IsOmitted m tuple
    → Has (growth m pref seeds).omitted tuple
has_omitted m pref seeds tuple sound orders is =
    let slice = slice_of m tuple in
    let of = slice_of_is m tuple in
    let met = has_met m slice is.demanded.set tuple sound is.demanded.demanded is.demanded.has in
    let left = has_filter (λ tuple. not (is_extendable m slice tuple)) (met_in m slice) tuple met (not_from_false (is_extendable m slice tuple) is.fails) in
    subst (λ tuples. Has tuples tuple) (sym (omitted_by_slice m pref seeds (slices m)))
    (has_flat (omitted_in_slice m pref seeds) (slices m) slice tuple (has_slices m slice of)
    (subst (λ tuples. Has tuples tuple) (sym (slice_grows m pref seeds slice orders of).omitted) left))
