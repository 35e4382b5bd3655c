-- Which values a slice has.
use Rattle.std.proofs.Common.{◌≡◌, ℕ, ◌<◌, not, [], length, get_or, ◌∙◌, sym, ap, subst}
use Rattle.std.specs.Prelude.{◌==◌}
use Rattle.std.proofs.Math.Bool.{or-false}
use Rattle.cov_model.specs.declared.slice.Slice.{Slice}
use Rattle.cov_model.specs.declared.slice.Slice.TheVariants.{Positive, Negative}
use Rattle.cov_model.specs.believed.Meaning.{value_at}
use Rattle.cov_model.specs.believed.Slices.{positive_values, slice_values, value_numbers}
use Rattle.cov_model.specs.believed.Sound.{ModelView, param_at}
use Rattle.cov_model.proofs.CellLemmas.{slice_values-positive, slice_values-own, slice_values-other}
use Rattle.definitions.specs.believed.Demand.{is_among}
use Rattle.definitions.specs.SliceRows.{IsSliceOf}
use Rattle.definitions.proofs.Members.{among_has, has_filter, of_among, of_filter, same_answer}
use Rattle.definitions.proofs.SliceLemmas.{IsSlice, has_numbers}

pub slice_exists : (m : ModelView) (slice : Slice) → IsSliceOf m slice → IsSlice m slice
slice_exists m Positive is = tt
slice_exists m (Negative q v) is = (is.0, is.2)

positive_has : (m : ModelView) (p v : ℕ) → v < length (param_at m.params p).values → not (value_at m p v).negative ≡ is_among (positive_values m p) v
positive_has m p v exists =
    same_answer (not (value_at m p v).negative) (is_among (positive_values m p) v)
    (λ plain. among_has (positive_values m p) v (has_filter (λ w. not (value_at m p w).negative) (value_numbers m p) v (has_numbers m p v exists) plain))
    (λ among. (of_filter (λ w. not (value_at m p w).negative) (value_numbers m p) v (of_among (positive_values m p) v among)).1)

pub slice_positive : (m : ModelView) (p v : ℕ) → p < length m.params → v < length (param_at m.params p).values
    → not (value_at m p v).negative ≡ is_among (get_or (slice_values m Positive) p []) v
slice_positive m p v within exists = positive_has m p v exists ∙ ap (λ vs. is_among vs v) (sym (slice_values-positive m p within))

pub slice_other : (m : ModelView) (q w p v : ℕ) → (q ≡ p → ⊥) → p < length m.params → v < length (param_at m.params p).values
    → not (value_at m p v).negative ≡ is_among (get_or (slice_values m (Negative q w)) p []) v
slice_other m q w p v differs within exists =
    positive_has m p v exists ∙ ap (λ vs. is_among vs v) (sym (slice_values-other m q w p within (λ e. differs (sym e))))

pub slice_fixed : (m : ModelView) (q w p v : ℕ) → q ≡ p → p < length m.params → (w == v) ≡ is_among (get_or (slice_values m (Negative q w)) p []) v
slice_fixed m q w p v same within =
    sym (or-false (w == v)) ∙ ap (λ vs. is_among vs v)
    (sym (ap (λ r. get_or (slice_values m (Negative q w)) r []) (sym same) ∙ slice_values-own m q w (subst (λ r. r < length m.params) (sym same) within)))
