-- Each parameter's values in a slice, in preference order.
use Rattle.std.proofs.Common.{◌≡◌, ℕ, ◌<◌, List, [], length, get_or, Option, ◌∙◌, sym, subst, arith}
use Rattle.std.proofs.lemmas.List.Sorted.{Contains-permutation}
use Rattle.cov_model.specs.declared.slice.Slice.{Slice}
use Rattle.cov_model.specs.believed.Sound.{ModelView}
use Rattle.cov_model.specs.believed.Rows.{value_in}
use Rattle.cov_model.specs.believed.Slices.{slice_values, value_numbers}
use Rattle.cov_model.proofs.CellLemmas.{length-slice_values}
use Rattle.definitions.specs.believed.Demand.{is_among}
use Rattle.definitions.specs.believed.Completion.{preferred_values}
use Rattle.cov_model.specs.Preference.{OrdersValues}
use Rattle.definitions.proofs.Members.{Has, has_contained, contains_member, has_filter, of_filter, among_has, of_among}
use Rattle.definitions.proofs.Choices.{IsChoice, choice_at, choice_from, choice_length}
use Rattle.definitions.proofs.PartialRowLemmas.{length-preferred_values, get_or-preferred_values}
use Rattle.definitions.proofs.SliceLemmas.{values_at, IsSlice, value_exists, has_numbers}

-- they are the slice's values of the parameter
pub of_preferred : (m : ModelView) (pref : List (List ℕ)) (slice : Slice) (p v : ℕ) → p < length m.params
    → Has (get_or (preferred_values m pref slice) p []) v → Has (values_at m slice p) v
of_preferred m pref slice p v within has =
    of_among (values_at m slice p) v
    (of_filter (is_among (values_at m slice p)) (get_or pref p []) v (subst (λ vs. Has vs v) (get_or-preferred_values m pref slice p within) has)).1

-- and all of them
pub has_preferred : (m : ModelView) (pref : List (List ℕ)) (slice : Slice) (p v : ℕ) → OrdersValues m pref → IsSlice m slice → p < length m.params
    → Has (values_at m slice p) v
    → Has (get_or (preferred_values m pref slice) p []) v
has_preferred m pref slice p v orders is within has =
    let number = has_numbers m p v (value_exists m slice p v is within has) in
    let ordered = has_contained (get_or pref p []) v
    (Contains-permutation (value_numbers m p) (get_or pref p []) v (orders.each p within) (contains_member (value_numbers m p) v number)) in
    subst (λ vs. Has vs v) (sym (get_or-preferred_values m pref slice p within))
    (has_filter (is_among (values_at m slice p)) (get_or pref p []) v ordered (among_has (values_at m slice p) v has))

-- so the rows of both are the same
pub preferred_are_values : (m : ModelView) (pref : List (List ℕ)) (slice : Slice) (row : List (Option ℕ)) → IsChoice (preferred_values m pref slice) row
    → IsChoice (slice_values m slice) row
preferred_are_values m pref slice row choice =
    let same : length (preferred_values m pref slice) ≡ length (slice_values m slice) = length-preferred_values m pref slice ∙ sym
    (length-slice_values m slice) in
    choice_from (slice_values m slice) row (choice_length (preferred_values m pref slice) row choice ∙ same) (λ p within.
    let own = choice_at (preferred_values m pref slice) row p choice (omega (arith, within, same)) in
    record { assigned = own.assigned; listed = of_preferred m pref slice p (value_in row p) (omega (arith, within, length-slice_values m slice)) own.listed })

pub values_are_preferred : (m : ModelView) (pref : List (List ℕ)) (slice : Slice) (row : List (Option ℕ)) → OrdersValues m pref → IsSlice m slice
    → IsChoice (slice_values m slice) row
    → IsChoice (preferred_values m pref slice) row
values_are_preferred m pref slice row orders is choice =
    let same : length (slice_values m slice) ≡ length (preferred_values m pref slice) = length-slice_values m slice ∙ sym
    (length-preferred_values m pref slice) in
    choice_from (preferred_values m pref slice) row (choice_length (slice_values m slice) row choice ∙ same) (λ p within.
    let own = choice_at (slice_values m slice) row p choice (omega (arith, within, same)) in
    record { assigned = own.assigned; listed = has_preferred m pref slice p (value_in row p) orders is (omega (arith, within, length-preferred_values m pref slice)) own.listed })
