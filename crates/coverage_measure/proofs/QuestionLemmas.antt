-- The demanded tuples of a set in a slice as questions.
use Rattle.std.proofs.Common.{◌≡◌, ℕ, ◌<◌, ◌≤◌, Bool, true, cond, List, [], ◌∷◌, length, get_or, find, Option, Some, inl, inr, refl, ◌∙◌, sym, ap}
use Rattle.std.proofs.Common.{arith, length-append}
use Rattle.std.specs.List.{filter, flat_map}
use Rattle.cov_model.specs.declared.slice.Slice.{Slice}
use Rattle.cov_model.specs.Preference.{OrdersValues}
use Rattle.cov_model.specs.believed.Sound.{ModelView, IsSound}
use Rattle.cov_model.specs.believed.Rows.{is_assigned, value_in}
use Rattle.cov_model.specs.believed.Slices.{slice_of, slice_values, slices}
use Rattle.cov_model.proofs.CellLemmas.{assigned_within, length-slice_values}
use Rattle.definitions.specs.declared.effort.Effort.{Effort}
use Rattle.definitions.specs.believed.Completion.{is_extendable}
use Rattle.definitions.specs.believed.Demand.{tuples_in, tuples_of}
use Rattle.definitions.specs.believed.Figures.{all_rows, is_served}
use Rattle.definitions.specs.believed.Search.{exceeds, first_over, plain_cost}
use Rattle.definitions.specs.SliceRows.{IsOfSlice, IsSliceOf}
use Rattle.definitions.proofs.InPlay.{IsTupleOf, tuple_is}
use Rattle.definitions.proofs.Members.{Has, among_has}
use Rattle.definitions.proofs.Serving.{servable_are_extendable}
use Rattle.definitions.proofs.SliceLemmas.{has_slices, slice_is, value_exists}
use Rattle.definitions.proofs.SliceValues.{slice_exists}
use Rattle.feasibility.proofs.Extendable.{plain_search_is_exact}
use Rattle.coverage_measure.specs.Asking.{is_above, is_found, tally}

-- a tuple of a set in a slice is a partial row of the slice
in_slice : (m : ModelView) (set : List ℕ) (slice : Slice) (tuple : List (Option ℕ)) → IsSliceOf m slice → IsTupleOf m set slice tuple → IsOfSlice m slice tuple
in_slice m set slice tuple own of = record {
  fits = record {
    as_long = of.choice.long ∙ length-slice_values m slice;
    exist = λ p has. value_exists m slice p (value_in tuple p) (slice_exists m slice own) (omega (arith, inside p has, length-slice_values m slice))
        (of.choice.listed p (inside p has) has);
  };
  listed = λ p has. among_has (get_or (slice_values m slice) p []) (value_in tuple p) (of.choice.listed p (inside p has) has);
}
  where
    inside : (p : ℕ) → is_assigned tuple p ≡ true → p < length (slice_values m slice)
    inside p has = omega (arith, assigned_within tuple p has, of.choice.long)

-- some row of the model serves it exactly if a search from it succeeds, and its own slice is this one
pub record IsQuestion (m : ModelView) (pref : List (List ℕ)) (slice : Slice) (tuple : List (Option ℕ)) : Type 0 where
  pub served : is_found m pref slice tuple ≡ is_served m (all_rows m) tuple
  pub own : slice_of m tuple ≡ slice

is_question : (m : ModelView) (pref : List (List ℕ)) (set : List ℕ) (slice : Slice) (tuple : List (Option ℕ)) → IsSound m → OrdersValues m pref
    → IsSliceOf m slice → Has (tuples_in m set slice) tuple → IsQuestion m pref slice tuple
is_question m pref set slice tuple sound orders is has =
    let of = tuple_is m set slice tuple (slice_exists m slice is) has in
    let own = slice_is m slice tuple (slice_exists m slice is) of.belongs in
    record {
      served =
          (plain_search_is_exact m pref slice tuple sound orders is (in_slice m set slice tuple is of)).0
          ∙ ap (λ s. is_extendable m s tuple) (sym own.is) ∙ sym (servable_are_extendable m tuple sound own.few);
      own = own.is;
    }

-- tests that agree on the members
filter_agree : (f g : List (Option ℕ) → Bool) (rows : List (List (Option ℕ))) → ((row : List (Option ℕ)) → Has rows row → f row ≡ g row) → filter f rows
    ≡ filter g rows
filter_agree f g [] same = refl
filter_agree f g (row ∷ rows) same =
    ap (λ b. cond b (row ∷ filter f rows) (filter f rows)) (same row (inl refl))
    ∙ ap (λ kept. cond (g row) (row ∷ kept) kept) (filter_agree f g rows (λ r has. same r (inr has)))

find_agree : (f g : List (Option ℕ) → Bool) (rows : List (List (Option ℕ))) → ((row : List (Option ℕ)) → Has rows row → f row ≡ g row) → find f rows
    ≡ find g rows
find_agree f g [] same = refl
find_agree f g (row ∷ rows) same =
    ap (λ b. cond b (Some row) (find f rows)) (same row (inl refl)) ∙ ap (λ found. cond (g row) (Some row) found)
    (find_agree f g rows (λ r has. same r (inr has)))

-- so many of them are served, and this is the first that costs more than it may
pub found_are_served : (m : ModelView) (pref : List (List ℕ)) (set : List ℕ) (slice : Slice) → IsSound m → OrdersValues m pref → IsSliceOf m slice
    → tally (is_found m pref slice) (tuples_in m set slice) ≡ tally (is_served m (all_rows m)) (tuples_in m set slice)
found_are_served m pref set slice sound orders is =
    ap (λ rows. length rows) (filter_agree (is_found m pref slice) (is_served m (all_rows m)) (tuples_in m set slice)
    (λ tuple has. (is_question m pref set slice tuple sound orders is has).served))

pub above_are_over : (m : ModelView) (pref : List (List ℕ)) (set : List ℕ) (slice : Slice) (effort : Effort) → IsSound m → OrdersValues m pref → IsSliceOf m slice
    → find (is_above m pref slice effort) (tuples_in m set slice) ≡ first_over m pref effort (tuples_in m set slice)
above_are_over m pref set slice effort sound orders is =
    find_agree (is_above m pref slice effort) (λ tuple. exceeds effort (plain_cost m pref (slice_of m tuple) tuple)) (tuples_in m set slice)
    (λ tuple has. ap (λ s. exceeds effort (plain_cost m pref s tuple)) (sym (is_question m pref set slice tuple sound orders is has).own))

-- an item has no more than all have
pub part_few : {X Y : Type 0} (f : X → List Y) (xs : List X) (x : X) → Has xs x → length (f x) ≤ length (flat_map f xs)
part_few f [] x has = absurd has
part_few f (y ∷ xs) x (inl same) = let here = ap (λ z. length (f z)) same in omega (arith, here, length-append (f y) (flat_map f xs))
part_few f (y ∷ xs) x (inr later) = omega (arith, part_few f xs x later, length-append (f y) (flat_map f xs))

-- the tuples in a slice are no more than all of the set
pub slice_few : (m : ModelView) (set : List ℕ) (slice : Slice) → IsSliceOf m slice → length (tuples_in m set slice) ≤ length (tuples_of m set)
slice_few m set slice is = part_few (tuples_in m set) (slices m) slice (has_slices m slice (slice_exists m slice is))
