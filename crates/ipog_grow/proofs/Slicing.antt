-- Slices one after another, and the suite that they make.
use Rattle.std.proofs.Common.{◌≡◌, ℕ, Bool, true, false, cond, List, [], ◌∷◌, ◌++◌, filter, flat_map, find, All, Option, Some, None, ◌∙◌, sym, ap, subst, refl}
use Rattle.std.specs.Prelude.{Err}
use Rattle.std.proofs.lemmas.List.{append-nil}
use Rattle.std.proofs.lemmas.Grind.{flat_map-append}
use Rattle.std.proofs.lemmas.List.Elements.{All-nil, All-cons, All-head, All-tail}
use Rattle.definitions.proofs.PartialRowLemmas.{of_slice-is}
use Rattle.cov_model.specs.declared.slice.Slice.{Slice}
use Rattle.cov_model.specs.believed.Sound.{ModelView}
use Rattle.cov_model.specs.Fits.{FitsModel}
use Rattle.definitions.specs.declared.effort.Effort.{Effort}
use Rattle.definitions.specs.believed.Completion.{has_slice}
use Rattle.definitions.specs.believed.Growth.{is_of_slice, slice_growth, slices_growth}
use Rattle.definitions.specs.believed.Search.{exceeds, first_over, question_cost}
use Rattle.definitions.proofs.Grown.{rows_of_slice, omitted_in_slice, rows_by_slice, omitted_by_slice}
use Rattle.ipog_grow.specs.declared.stop.Stop.{Stop}
use Rattle.ipog_grow.specs.declared.stop.Stop.TheVariants as stops
use Rattle.ipog_grow.specs.Asking.{Told}
use Rattle.ipog_grow.specs.Suites.{IsStopped}
use Rattle.ipog_grow.specs.Growing.{GrowsIn}
use Rattle.ipog_grow.proofs.Seeding.{slice_of-grows}
use Rattle.ipog_grow.proofs.Spending.{find-later, find-earlier}

-- a partial row with at most one negative value that is of a slice grows there
pub of_slice-grows : (m : ModelView) (slice : Slice) (cells : List (Option ℕ)) → FitsModel m cells → has_slice m cells ≡ true
    → is_of_slice m slice cells ≡ true → GrowsIn m slice cells
of_slice-grows m slice cells fits few of = subst (λ (s : Slice). GrowsIn m s cells) (of_slice-is m slice cells few of) (slice_of-grows m cells fits few)

module _ (m : ModelView) (pref : List (List ℕ)) (effort : Effort) (seeds : List (ℕ × List (Option ℕ))) where
  abbrev asked_in_slice : Slice → List (List (Option ℕ))
  asked_in_slice slice = (slice_growth m pref seeds slice).asked

  asked_by_slice : (parts : List Slice) → (slices_growth m pref seeds parts).asked ≡ flat_map asked_in_slice parts
  asked_by_slice [] = refl
  asked_by_slice (slice ∷ parts) = ap (λ tuples. asked_in_slice slice ++ tuples) (asked_by_slice parts)

  abbrev over : List (Option ℕ) → Bool
  over cells = exceeds effort (question_cost m pref cells)

  flat-push : (f : Slice → List (List (Option ℕ))) (parts : List Slice) (slice : Slice) → flat_map f (parts ++ slice ∷ []) ≡ flat_map f parts ++ f slice
  flat-push f parts slice = flat_map-append f parts (slice ∷ []) ∙ ap (λ last. flat_map f parts ++ last) (append-nil (f slice))

  -- the slices are grown, and no question of theirs cost more than it may
  pub record SlicesGrown (parts : List Slice) (rows omitted : List (List (Option ℕ))) : Type 0 where
    pub rows_are : rows ≡ (slices_growth m pref seeds parts).rows
    pub omitted_are : omitted ≡ (slices_growth m pref seeds parts).omitted
    pub unspent : first_over m pref effort (slices_growth m pref seeds parts).asked ≡ None

  pub slices_grown-none : SlicesGrown [] [] []
  slices_grown-none = record { rows_are = refl; omitted_are = refl; unspent = refl }

  -- one more slice
  pub slices_grown-next : (parts : List Slice) (slice : Slice) (rows rows' omitted omitted' : List (List (Option ℕ))) → SlicesGrown parts rows omitted
      → rows' ≡ rows ++ (slice_growth m pref seeds slice).rows → omitted' ≡ omitted ++ (slice_growth m pref seeds slice).omitted
      → first_over m pref effort (slice_growth m pref seeds slice).asked ≡ None → SlicesGrown (parts ++ slice ∷ []) rows' omitted'
  slices_grown-next parts slice rows rows' omitted omitted' grown row_put omitted_put unspent = record {
    rows_are = row_put ∙ ap (λ rs. rs ++ rows_of_slice m pref seeds slice) (grown.rows_are ∙ rows_by_slice m pref seeds parts)
        ∙ sym (rows_by_slice m pref seeds (parts ++ slice ∷ []) ∙ flat-push (rows_of_slice m pref seeds) parts slice);
    omitted_are = omitted_put ∙ ap (λ ts. ts ++ omitted_in_slice m pref seeds slice) (grown.omitted_are ∙ omitted_by_slice m pref seeds parts)
        ∙ sym (omitted_by_slice m pref seeds (parts ++ slice ∷ []) ∙ flat-push (omitted_in_slice m pref seeds) parts slice);
    unspent = ap (find over) (asked_by_slice (parts ++ slice ∷ []) ∙ flat-push asked_in_slice parts slice)
        ∙ find-later over (flat_map asked_in_slice parts) (asked_in_slice slice) (ap (find over) (sym (asked_by_slice parts)) ∙ grown.unspent) ∙ unspent;
  }

  -- or its first question that costs more than it may is the first of all
  pub slices_grown-spent : (parts : List Slice) (slice : Slice) (rest : List Slice) (rows omitted : List (List (Option ℕ))) → SlicesGrown parts rows omitted
      → (q : List (Option ℕ)) → first_over m pref effort (slice_growth m pref seeds slice).asked ≡ Some q
      → first_over m pref effort (slices_growth m pref seeds (parts ++ slice ∷ rest)).asked ≡ Some q
  slices_grown-spent parts slice rest rows omitted grown q spent =
      ap (find over) (asked_by_slice (parts ++ slice ∷ rest) ∙ flat_map-append asked_in_slice parts (slice ∷ rest))
      ∙ find-later over (flat_map asked_in_slice parts) (flat_map asked_in_slice (slice ∷ rest)) (ap (find over) (sym (asked_by_slice parts)) ∙ grown.unspent)
      ∙ find-earlier over q (asked_in_slice slice) (flat_map asked_in_slice rest) spent

-- the seeds of a slice grow there
pub seeds_grow : (m : ModelView) (slice : Slice) (rows : List (List (Option ℕ))) → All (FitsModel m) rows → All (λ row. has_slice m row ≡ true) rows
    → All (GrowsIn m slice) (filter (is_of_slice m slice) rows)
seeds_grow m slice [] fit few = All-nil (GrowsIn m slice)
seeds_grow m slice (row ∷ rows) fit few =
    at (is_of_slice m slice row) refl (seeds_grow m slice rows (All-tail (FitsModel m) row rows fit) (All-tail (λ r. has_slice m r ≡ true) row rows few))
  where
    at : (b : Bool) → is_of_slice m slice row ≡ b → All (GrowsIn m slice) (filter (is_of_slice m slice) rows)
        → All (GrowsIn m slice) (cond b (row ∷ filter (is_of_slice m slice) rows) (filter (is_of_slice m slice) rows))
    at true is later =
        All-cons (GrowsIn m slice) row (filter (is_of_slice m slice) rows)
        (of_slice-grows m slice row (All-head (FitsModel m) row rows fit) (All-head (λ r. has_slice m r ≡ true) row rows few) is) later
    at false is later = later

-- a run that stopped in a part stopped there in the whole
pub stopped-in : (A : Type 0) (stop : Stop) (question : List (Option ℕ)) (part whole : Option (List (Option ℕ)))
    → (part ≡ Some question → whole ≡ Some question)
    → Told {A = A} (Err stop) question part → IsStopped stop question whole
stopped-in A stops.Spent question part whole more told = more told
stopped-in A stops.NoMemory question part whole more told = tt
