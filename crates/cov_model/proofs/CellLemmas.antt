-- Partial rows: what they give and contain, and the values that a slice lets them give.
use Rattle.std.proofs.Common.{◌≡◌, ◌≢◌, ℕ, zero, suc, ◌<◌, true, List, [], ◌∷◌, map, length, get_or, Option, Some, None, is_some, unwrap_or, inl, inr, ◌∙◌, sym, ap, refl, arith, zero-add}
use Rattle.std.specs.Prelude.{◌==◌}
use Rattle.std.proofs.lemmas.Bool.{false≢true, cases_lt, and_parts, and_from, eqb-true, eq-eqb}
use Rattle.std.proofs.lemmas.Option.{none-some, same_Some}
use Rattle.std.proofs.lemmas.List.{length-set, get_or-set_same, get_or-set_other, get_or_past}
use Rattle.std.proofs.lemmas.List.FromFn.{length-map-range_with_len, get_or-map-range_with_len}
use Rattle.cov_model.specs.declared.slice.Slice.{Slice}
use Rattle.cov_model.specs.declared.slice.Slice.TheVariants.{Positive, Negative}
use Rattle.cov_model.specs.believed.Sound.{ModelView}
use Rattle.cov_model.specs.believed.Rows.{contains, is_assigned, value_in}
use Rattle.cov_model.specs.believed.Valid.{param_numbers}
use Rattle.cov_model.specs.believed.Slices.{positive_values, slice_values}

-- a parameter that has a value has a place
pub assigned_within : (cells : List (Option ℕ)) (p : ℕ) → is_assigned cells p ≡ true → p < length cells
assigned_within cells p assigned =
    elim (cases_lt p (length cells)) [
      | inl within ↦ within
      | inr past ↦ absurd (false≢true (sym (ap is_some (get_or_past cells p None past)) ∙ assigned))
    ]

-- a row gives what a partial row gives that it contains
pub contains-get_or : (row cells : List (Option ℕ)) (p : ℕ) → contains row cells ≡ true → is_assigned cells p ≡ true
    → get_or row p None ≡ get_or cells p None
contains-get_or row [] p contained assigned = absurd (false≢true assigned)
contains-get_or [] (None ∷ cells) zero contained assigned = refl
contains-get_or [] (None ∷ cells) (suc p) contained assigned = contains-get_or [] cells p contained assigned
contains-get_or [] (Some v ∷ cells) p contained assigned = absurd (false≢true contained)
contains-get_or (given ∷ row) (None ∷ cells) zero contained assigned = absurd (false≢true assigned)
contains-get_or (given ∷ row) (None ∷ cells) (suc p) contained assigned = contains-get_or row cells p contained assigned
contains-get_or (None ∷ row) (Some v ∷ cells) p contained assigned = absurd (false≢true contained)
contains-get_or (Some w ∷ row) (Some v ∷ cells) zero contained assigned = ap Some (eqb-true w v (and_parts (w == v) (contains row cells) contained).0)
contains-get_or (Some w ∷ row) (Some v ∷ cells) (suc p) contained assigned =
    contains-get_or row cells p (and_parts (w == v) (contains row cells) contained).1 assigned

pub contains-assigned : (row cells : List (Option ℕ)) (p : ℕ) → contains row cells ≡ true → is_assigned cells p ≡ true → is_assigned row p ≡ true
contains-assigned row cells p contained assigned = ap is_some (contains-get_or row cells p contained assigned) ∙ assigned

pub contains-value_in : (row cells : List (Option ℕ)) (p : ℕ) → contains row cells ≡ true → is_assigned cells p ≡ true → value_in row p ≡ value_in cells p
contains-value_in row cells p contained assigned = ap (λ (cell : Option ℕ). unwrap_or cell 0) (contains-get_or row cells p contained assigned)

-- a row contains what gives nothing but what the row gives
pub contains-from : (row cells : List (Option ℕ)) → ((p : ℕ) → is_assigned cells p ≡ true → get_or row p None ≡ get_or cells p None) → contains row cells ≡ true
contains-from row [] same = refl
contains-from [] (None ∷ cells) same = contains-from [] cells (λ p. same (suc p))
contains-from [] (Some v ∷ cells) same = absurd (none-some v (same 0 refl))
contains-from (given ∷ row) (None ∷ cells) same = contains-from row cells (λ p. same (suc p))
contains-from (None ∷ row) (Some v ∷ cells) same = absurd (none-some v (same 0 refl))
contains-from (Some w ∷ row) (Some v ∷ cells) same =
    and_from (w == v) (contains row cells) (eq-eqb w v (same_Some w v (same 0 refl))) (contains-from row cells (λ p. same (suc p)))

-- every partial row contains itself, and what is contained in what it contains
pub contains-refl : (row : List (Option ℕ)) → contains row row ≡ true
contains-refl row = contains-from row row (λ p assigned. refl)

pub contains-trans : (row path cells : List (Option ℕ)) → contains row path ≡ true → contains path cells ≡ true → contains row cells ≡ true
contains-trans row path cells outer inner =
    contains-from row cells (λ p assigned.
    contains-get_or row path p outer (contains-assigned path cells p inner assigned) ∙ contains-get_or path cells p inner assigned)

-- a slice has a list of values for each parameter
pub length-slice_values : (m : ModelView) (slice : Slice) → length (slice_values m slice) ≡ length m.params
length-slice_values m Positive = length-map-range_with_len (positive_values m) 0 (length m.params)
length-slice_values m (Negative q v) =
    length-set (map (positive_values m) (param_numbers m)) q (v ∷ []) ∙ length-map-range_with_len (positive_values m) 0 (length m.params)

-- in the positive slice its positive ones
pub slice_values-positive : (m : ModelView) (p : ℕ) → p < length m.params → get_or (slice_values m Positive) p [] ≡ positive_values m p
slice_values-positive m p within = get_or-map-range_with_len (positive_values m) 0 (length m.params) p p [] within (zero-add p)

-- in a negative slice the negative value alone, or the positive ones of each other parameter
pub slice_values-own : (m : ModelView) (q v : ℕ) → q < length m.params → get_or (slice_values m (Negative q v)) q [] ≡ v ∷ []
slice_values-own m q v within =
    get_or-set_same (map (positive_values m) (param_numbers m)) q (v ∷ []) []
    (omega (arith, within, length-map-range_with_len (positive_values m) 0 (length m.params)))

pub slice_values-other : (m : ModelView) (q v p : ℕ) → p < length m.params → p ≢ q → get_or (slice_values m (Negative q v)) p [] ≡ positive_values m p
slice_values-other m q v p within apart =
    get_or-set_other (map (positive_values m) (param_numbers m)) q p (v ∷ []) [] apart ∙ slice_values-positive m p within
