-- Seed rows one after another, and the slices that they belong to.
use Rattle.std.proofs.Common.{◌≡◌, ℕ, ◌+◌, ◌<◌, Bool, true, false, cond, not, ◌||◌, List, [], ◌∷◌, ◌++◌, map, length, filter, Option, is_some, All, inl, inr, ◌∙◌, sym, ap, subst, refl, arith}
use Rattle.std.specs.List.{list_any}
use Rattle.std.proofs.lemmas.Bool.{cases_eq, leb-true}
use Rattle.std.proofs.lemmas.Bool.Decides.{Decides-eqb}
use Rattle.std.proofs.lemmas.List.{map-append, append-nil}
use Rattle.std.proofs.lemmas.List.Elements.{filter-append, All-nil, All-cons, All-head, All-tail, All-filter}
use Rattle.cov_model.proofs.CellLemmas.{assigned_within}
use Rattle.cov_model.specs.believed.Sound.{ModelView}
use Rattle.cov_model.specs.believed.Rows.{is_assigned, value_in}
use Rattle.cov_model.specs.Fits.{FitsModel}
use Rattle.cov_model.specs.believed.Valid.{negatives}
use Rattle.cov_model.specs.believed.Slices.{slice_of, slice_by}
use Rattle.definitions.specs.believed.Completion.{has_slice}
use Rattle.definitions.specs.believed.Seeds.{is_same_row, distinct_by, seed_rows}
use Rattle.definitions.specs.SliceRows.{IsSliceOf}
use Rattle.definitions.proofs.Members.{Has}
use Rattle.definitions.proofs.SliceLemmas.{is_negative, of_negatives, has_negatives, IsNegativeAt, negative_exists}
use Rattle.definitions.proofs.SliceValues.{slice_positive, slice_other, slice_fixed}
use Rattle.ipog_grow.specs.Growing.{GrowsIn}
use Rattle.ipog_grow.specs.Rows.{is_known_row, with_row, with_seed}
use Rattle.definitions.proofs.SameRows.{distinct_by-push, has_same}

-- the slice of a partial row is one of the model's
pub slice_of-is : (m : ModelView) (cells : List (Option ℕ)) → IsSliceOf m (slice_of m cells)
slice_of-is m cells = at (negatives m cells) (of_negatives m cells)
  where
    at : (ps : List ℕ) → ((p : ℕ) → Has ps p → IsNegativeAt m cells p) → IsSliceOf m (slice_by cells ps)
    at [] each = tt
    at (p ∷ ps) each = let first = each p (inl refl) in (first.within, negative_exists m p (value_in cells p) first.negative, first.negative)

-- with at most one negative value it grows in it
pub slice_of-grows : (m : ModelView) (cells : List (Option ℕ)) → FitsModel m cells → has_slice m cells ≡ true → GrowsIn m (slice_of m cells) cells
slice_of-grows m cells fits few = at (negatives m cells) refl
  where
    within : (p : ℕ) → is_assigned cells p ≡ true → p < length m.params
    within p assigned = let below = assigned_within cells p assigned in omega (arith, below, fits.as_long)

    -- a value outside the list isn't negative
    positive : (ps : List ℕ) → negatives m cells ≡ ps → (p : ℕ) → is_assigned cells p ≡ true → (Has ps p → ⊥) → not (is_negative m p (value_in cells p)) ≡ true
    positive ps are p assigned outside = by_case (is_negative m p (value_in cells p)) refl
      where
        by_case : (b : Bool) → is_negative m p (value_in cells p) ≡ b → not b ≡ true
        by_case true is =
            absurd (outside (subst (λ (qs : List ℕ). Has qs p) are
            (has_negatives m cells p (record { within = within p assigned; assigned = assigned; negative = is }))))
        by_case false is = refl

    at : (ps : List ℕ) → negatives m cells ≡ ps → GrowsIn m (slice_by cells ps) cells
    at [] are = record {
      of = record {
        fits = fits;
        listed = λ p assigned.
            sym (slice_positive m p (value_in cells p) (within p assigned) (fits.exist p assigned)) ∙ positive [] are p assigned (λ has. has);
      };
      fixed = tt;
    }
    at (q ∷ []) are = record {
      of = record {
        fits = fits;
        listed = λ p assigned.
            elim (cases_eq q p) [
              | inl same ↦
                  sym (slice_fixed m q (value_in cells q) p (value_in cells p) same (within p assigned))
                  ∙ (Decides-eqb (value_in cells q) (value_in cells p)).1 (ap (value_in cells) same)
              | inr apart ↦
                  sym (slice_other m q (value_in cells q) p (value_in cells p) apart (within p assigned) (fits.exist p assigned))
                  ∙ positive (q ∷ []) are p assigned (λ has. elim has [ inl same ↦ apart same | inr none ↦ none ])
            ];
      };
      fixed = (of_negatives m cells q (subst (λ (qs : List ℕ). Has qs q) (sym are) (inl refl))).assigned;
    }
    at (q ∷ r ∷ rest) are = absurd (omega (arith, leb-true (length (negatives m cells)) 1 few, ap length are))

-- a seed: the number of its line, and its partial row
abbrev Seed : Type 0
Seed = ℕ × List (Option ℕ)

abbrev row : Seed → List (Option ℕ)
row seed = seed.1

abbrev gives : Seed → Bool
gives seed = list_any is_some seed.1

known_same : (seeds : List Seed) (x : Seed) → is_known_row (map row seeds) x.1 ≡ has_same row seeds x
known_same [] x = refl
known_same (seed ∷ seeds) x = ap (λ (b : Bool). is_same_row (row seed) (row x) || b) (known_same seeds x)

pub record Gathered (seeds : List Seed) (known : List (List (Option ℕ))) (list : List Seed) : Type 0 where
  pub known_are : known ≡ map row (distinct_by row seeds)
  pub list_are : list ≡ seed_rows seeds

-- one more seed
pub gathered-next : (seeds : List Seed) (x : Seed) (known known' : List (List (Option ℕ))) (list list' : List Seed)
    → known ≡ map row (distinct_by row seeds) → list ≡ seed_rows seeds → known' ≡ with_row known x.1 → list' ≡ with_seed known list x
    → Gathered (seeds ++ x ∷ []) known' list'
gathered-next seeds x known known' list list' knows lists adds puts =
    let first : List Seed = distinct_by row seeds in
    let test : is_known_row known x.1 ≡ has_same row first x = ap (λ ks. is_known_row ks x.1) knows ∙ known_same first x in record {
      known_are = adds ∙ ap (λ (b : Bool). cond b known (known ++ x.1 ∷ [])) test ∙ ap (λ ks. cond (has_same row first x) ks (ks ++ x.1 ∷ [])) knows
          ∙ rows (has_same row first x) first ∙ ap (map row) (sym (distinct_by-push row seeds x));
      list_are = puts ∙ ap (λ (b : Bool). cond (b || not (gives x)) list (list ++ x ∷ [])) test
          ∙ ap (λ ks. cond (has_same row first x || not (gives x)) ks (ks ++ x ∷ [])) lists
          ∙ passing (has_same row first x) first ∙ ap (filter gives) (sym (distinct_by-push row seeds x));
    }
  where
    rows : (b : Bool) (first : List Seed) → cond b (map row first) (map row first ++ x.1 ∷ []) ≡ map row (cond b first (first ++ x ∷ []))
    rows true first = refl
    rows false first = sym (map-append row first (x ∷ []))

    last : (b : Bool) (before : List Seed) → cond (not b) before (before ++ x ∷ []) ≡ before ++ cond b (x ∷ []) []
    last true before = refl
    last false before = sym (append-nil before)

    passing : (b : Bool) (first : List Seed) → cond (b || not (gives x)) (filter gives first) (filter gives first ++ x ∷ [])
        ≡ filter gives (cond b first (first ++ x ∷ []))
    passing true first = refl
    passing false first = last (gives x) (filter gives first) ∙ sym (filter-append gives first (x ∷ []))

distinct_fit : (P : Seed → Type 0) (seeds : List Seed) → All P seeds → All P (distinct_by row seeds)
distinct_fit P [] all = All-nil P
distinct_fit P (seed ∷ seeds) all =
    All-cons P seed (filter (λ y. not (is_same_row (row seed) (row y))) (distinct_by row seeds)) (All-head P seed seeds all)
    (All-filter (λ y. not (is_same_row (row seed) (row y))) P (distinct_by row seeds) (distinct_fit P seeds (All-tail P seed seeds all)))

-- what holds of each seed holds of the distinct ones
pub seed_rows-fit : (P : Seed → Type 0) (seeds : List Seed) → All P seeds → All P (seed_rows seeds)
seed_rows-fit P seeds all = All-filter gives P (distinct_by row seeds) (distinct_fit P seeds all)

-- what holds of each given one holds of what it is given for
pub fit-map : {X Y : Type 0} (P : Y → Type 0) (f : X → Y) (xs : List X) → All P (map f xs) → All (λ x. P (f x)) xs
fit-map P f [] all = All-nil (λ x. P (f x))
fit-map P f (x ∷ xs) all = All-cons (λ y. P (f y)) x xs (All-head P (f x) (map f xs) all) (fit-map P f xs (All-tail P (f x) (map f xs) all))
