-- Tuples without negative values that no row serves.
use Rattle.std.proofs.Common.{◌≡◌, ℕ, false, List, [], get_or, Option, ◌∙◌, sym, ap}
use Rattle.std.proofs.lemmas.Bool.{false≢true, false_from_ne_true}
use Rattle.cov_model.specs.declared.slice.Slice.{Slice}
use Rattle.cov_model.specs.declared.slice.Slice.TheVariants.{Positive}
use Rattle.cov_model.specs.believed.Sound.{ModelView}
use Rattle.cov_model.specs.believed.Rows.{value_in}
use Rattle.cov_model.specs.believed.Slices.{slice_of, slice_values}
use Rattle.cov_model.specs.believed.Valid.{serves}
use Rattle.definitions.specs.believed.Completion.{is_extendable}
use Rattle.definitions.specs.believed.Covering.{IsUnserved}
use Rattle.definitions.specs.SliceRows.{IsOfSlice}
use Rattle.definitions.proofs.Members.{of_among}
use Rattle.definitions.proofs.Serving.{served_extends}
use Rattle.definitions.proofs.SliceLemmas as slices
use Rattle.definitions.proofs.SliceLemmas.{slice_is}
use Rattle.feasibility.specs.declared.answer.Answer.{Answer}
use Rattle.feasibility.specs.declared.answer.Answer.TheVariants.{No}
use Rattle.feasibility.specs.Answers.{answer_of}
use Rattle.feasibility.proofs.Visits.{told_no}

-- their slice is the positive one
positive_of : (m : ModelView) (tuple : List (Option ℕ)) → IsOfSlice m Positive tuple → slices.IsSliceOf m Positive tuple
positive_of m tuple of =
    slice_is m Positive tuple tt (record {
      values = λ p within given. of_among (get_or (slice_values m Positive) p []) (value_in tuple p) (of.listed p given);
      fixed = tt;
    })

pub positive_slice : (m : ModelView) (tuple : List (Option ℕ)) → IsOfSlice m Positive tuple → slice_of m tuple ≡ Positive
positive_slice m tuple of = (positive_of m tuple of).is

-- what isn't extendable there is served by no row
pub unserved : (m : ModelView) (tuple : List (Option ℕ)) (cost budget : ℕ) (answer : Answer) → IsOfSlice m Positive tuple
    → answer ≡ answer_of (is_extendable m Positive tuple) cost budget → answer ≡ No → IsUnserved m tuple
unserved m tuple cost budget answer of told ended row =
    let ends : is_extendable m Positive tuple ≡ false = (told_no (is_extendable m Positive tuple) cost budget (sym ended ∙ told)).is in
    false_from_ne_true (serves m row tuple) (λ holds.
    false≢true (sym ends ∙ sym (ap (λ (s : Slice). is_extendable m s tuple) (positive_slice m tuple of))
    ∙ served_extends m row tuple (positive_of m tuple of).few holds))
