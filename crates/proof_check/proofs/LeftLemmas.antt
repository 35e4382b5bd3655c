-- The demanded tuples that are left, one omission after another.
use Rattle.std.proofs.Common.{◌≡◌, ℕ, ◌+◌, ◌<◌, Bool, true, false, ◌&&◌, not, List, [], ◌∷◌, ◌++◌, length, get_or, take, replicate, Option, Some, inl, inr, ◌∙◌, refl, sym, ap, arith}
use Rattle.std.specs.Prelude.{slice_get, slice_set}
use Rattle.std.specs.List.{list_any}
use Rattle.std.proofs.lemmas.Bool.{cases_eq, false_from_ne_true}
use Rattle.std.proofs.lemmas.Option.{same_Some, slice_get_within}
use Rattle.std.proofs.lemmas.List.{get_or-replicate, get_or-set_other, get_or-set_same, length-replicate, length-set, map-append, take_more}
use Rattle.std.proofs.lemmas.List.Folds.{list_any-append}
use Rattle.cov_model.specs.believed.Sound.{ModelView}
use Rattle.definitions.specs.believed.Demand.{demanded_tuples}
use Rattle.cov_model.specs.believed.Tuples.{cells_of}
use Rattle.definitions.specs.believed.Seeds.{is_same_row}
use Rattle.definitions.proofs.PartialRowLemmas.{same-refl, same_row_is}
use Rattle.refutation.specs.Checking.{tuples_of}
use Rattle.refutation.specs.declared.omissions.Omission.{Omission}
use Rattle.proof_check.specs.Left.{AreLeft, Clears, IsPlaceOf, LacksPlace}
use Rattle.tuple_index.proofs.InverseLemmas.{one_place}
use Rattle.proof_check.proofs.DemandLemmas.{demanded_long, demanded_once}
use Rattle.std.proofs.Math.Bool.{and-false, and-true}
use Rattle.value_text.proofs.ListLemmas.{and_not-or}

-- where there is no omission yet, all are left
pub all_left : (m : ModelView) (count : ℕ) → count ≡ length (demanded_tuples m) → AreLeft m [] (replicate count true)
all_left m count same = record {
  as_many = length-replicate count true ∙ same;
  marks = λ place tuple here. get_or-replicate count place true false (omega (arith, slice_get_within (demanded_tuples m) place tuple here, same));
}

-- a demanded tuple that is the same as this one stands where this one stands
same_stands : (m : ModelView) (cells other : List (Option ℕ)) (place : ℕ) → length cells ≡ length m.params → IsPlaceOf m other place
    → is_same_row other cells ≡ true → IsPlaceOf m cells place
same_stands m cells other place long here same = here ∙ ap Some (same_row_is other cells (demanded_long m place other here ∙ sym long) same)

-- the mark of a demanded tuple is taken away
pub clears_place : (m : ModelView) (cells : List (Option ℕ)) (at : ℕ) (before : List Bool) → length cells ≡ length m.params → IsPlaceOf m cells at
    → length before ≡ length (demanded_tuples m) → Clears m cells before (slice_set before at false)
clears_place m cells at before long there as_many = record { as_many = length-set before at false; marks = marks }
  where
    marks : (place : ℕ) (other : List (Option ℕ)) → IsPlaceOf m other place
        → get_or (slice_set before at false) place false ≡ (get_or before place false && not (is_same_row other cells))
    marks place other here = elim (cases_eq place at) [
      | inl same ↦
          let own : is_same_row other cells ≡ true =
          ap (λ o. is_same_row o cells) (same_Some other cells (sym here ∙ ap (slice_get (demanded_tuples m)) same ∙ there)) ∙ same-refl cells in
          ap (λ k. get_or (slice_set before at false) k false) same
          ∙ get_or-set_same before at false false (omega (arith, slice_get_within (demanded_tuples m) at cells there, as_many))
          ∙ sym (ap (λ b. get_or before place false && not b) own ∙ and-false (get_or before place false))
      | inr apart ↦
          let differs : is_same_row other cells ≡ false =
          false_from_ne_true (is_same_row other cells) (λ same.
          apart (one_place (demanded_tuples m) place at cells (demanded_once m) (same_stands m cells other place long here same) there)) in
          get_or-set_other before at place false false apart ∙ sym (ap (λ b. get_or before place false && not b) differs ∙ and-true (get_or before place false))
    ]

-- a tuple that isn't demanded takes none away
pub clears_none : (m : ModelView) (cells : List (Option ℕ)) (before : List Bool) → length cells ≡ length m.params → LacksPlace m cells → Clears m cells before before
clears_none m cells before long lacks = record {
  as_many = refl;
  marks = λ place other here.
      let differs : is_same_row other cells ≡ false =
      false_from_ne_true (is_same_row other cells) (λ same. lacks place (same_stands m cells other place long here same)) in
      sym (ap (λ b. get_or before place false && not b) differs ∙ and-true (get_or before place false));
}

-- one more omission
pub left_more : (m : ModelView) (omissions : List Omission) (i : ℕ) (omission : Omission) (before after : List Bool) → i < length omissions
    → omission ≡ get_or omissions i omission → AreLeft m (take i omissions) before → Clears m (cells_of (length m.params) omission.tuple) before after
    → AreLeft m (take (i + 1) omissions) after
left_more m omissions i omission before after within is left clears = record {
  as_many = clears.as_many ∙ left.as_many;
  marks = λ place tuple here.
      clears.marks place tuple here ∙ ap (λ b. b && not (is_same_row tuple (cells_of (length m.params) omission.tuple))) (left.marks place tuple here)
      ∙ joined (is_same_row tuple) (tuples_of m (take i omissions)) (cells_of (length m.params) omission.tuple)
      ∙ ap (λ tuples. not (list_any (is_same_row tuple) tuples)) (sym next);
}
  where
    next : tuples_of m (take (i + 1) omissions) ≡ tuples_of m (take i omissions) ++ cells_of (length m.params) omission.tuple ∷ []
    next =
        ap (tuples_of m) (take_more omissions i omission within ∙ ap (λ o. take i omissions ++ o ∷ []) (sym is))
        ∙ map-append (λ (o : Omission). cells_of (length m.params) o.tuple) (take i omissions) (omission ∷ [])

    joined : (test : List (Option ℕ) → Bool) (tuples : List (List (Option ℕ))) (cells : List (Option ℕ))
        → (not (list_any test tuples) && not (test cells)) ≡ not (list_any test (tuples ++ cells ∷ []))
    joined test tuples cells = and_not-or (list_any test tuples) (test cells) ∙ ap not (sym (list_any-append test tuples (cells ∷ [])))
