-- What the refutation of an omitted tuple stands on.
use Rattle.std.proofs.Common.{◌≡◌, ℕ, Bool, true, false, cond, List, [], get_or, Option, Some, None, ◌∙◌, sym, ap, subst}
use Rattle.std.proofs.lemmas.Bool.{false≢true, false_from_ne_true}
use Rattle.std.proofs.lemmas.Option.{none-some}
use Rattle.cov_model.specs.declared.slice.Slice.{Slice}
use Rattle.cov_model.specs.declared.slice.Slice.TheVariants.{Positive, Negative}
use Rattle.cov_model.specs.believed.Rows.{value_in}
use Rattle.cov_model.specs.believed.Slices.{slice_values}
use Rattle.cov_model.specs.believed.Sound.{ModelView}
use Rattle.cov_model.specs.believed.Valid.{serves}
use Rattle.definitions.specs.believed.Completion.{is_extendable}
use Rattle.definitions.specs.believed.Covering.{IsUnserved}
use Rattle.definitions.specs.believed.Refutation.{Token, is_eager}
use Rattle.definitions.specs.believed.Search.{exceeds, plain_cost, question_cost}
use Rattle.definitions.specs.believed.SuiteProof.{HasFewBranches, IsEagerTree}
use Rattle.definitions.proofs.Members.{of_among}
use Rattle.definitions.proofs.Serving.{served_extends}
use Rattle.definitions.proofs.SliceLemmas.{InSlice, slice_is}
use Rattle.definitions.proofs.SliceLemmas as slices
use Rattle.definitions.proofs.SliceValues.{slice_exists}
use Rattle.full_search.specs.Questions.{QuestionsView}
use Rattle.ipog_grow.specs.Asking.{IsSoundContext}
use Rattle.ipog_grow.specs.Growing.{GrowsIn, HasFixed}
use Rattle.ipog_grow.specs.Omissions.{IsOmittedIn}
use Rattle.ipog_grow.proofs.Tuples.{grows-slice}

-- a partial row that grows in a slice belongs to it
grows-belongs : (m : ModelView) (slice : Slice) (cells : List (Option ℕ)) → GrowsIn m slice cells → InSlice m slice cells
grows-belongs m slice cells grows = record {
  values = λ p within assigned. of_among (get_or (slice_values m slice) p []) (value_in cells p) (grows.of.listed p assigned);
  fixed = fixed slice grows.fixed;
}
  where
    fixed : (slice : Slice) → HasFixed slice cells → slices.HasFixed slice cells
    fixed Positive has = tt
    fixed (Negative q v) has = has

-- no row serves an omitted tuple
pub omitted-unserved : (context : QuestionsView) (tuple : List (Option ℕ)) → IsSoundContext context → IsOmittedIn context tuple
    → IsUnserved context.model tuple
omitted-unserved context tuple is omitted row =
    let own = slice_is context.model context.slice tuple (slice_exists context.model context.slice is.slice)
    (grows-belongs context.model context.slice tuple omitted.grows) in
    false_from_ne_true (serves context.model row tuple)
    (λ holds.
    false≢true (sym omitted.fails ∙ ap (λ slice. is_extendable context.model slice tuple) (sym own.is)
    ∙ served_extends context.model row tuple own.few holds))

-- its plain cost is that of its question
pub omitted-cost : (context : QuestionsView) (tuple : List (Option ℕ)) → IsSoundContext context → IsOmittedIn context tuple
    → question_cost context.model context.prefs tuple ≡ plain_cost context.model context.prefs context.slice tuple
omitted-cost context tuple is omitted =
    ap (λ slice. plain_cost context.model context.prefs slice tuple) (grows-slice context.model context.slice tuple is.slice omitted.grows)

-- which is no more than a question may cost
pub omitted-within : (context : QuestionsView) (tuple : List (Option ℕ)) → IsSoundContext context → IsOmittedIn context tuple
    → exceeds context.effort (plain_cost context.model context.prefs context.slice tuple) ≡ true → ⊥
omitted-within context tuple is omitted above =
    not_over (exceeds context.effort (question_cost context.model context.prefs tuple))
    (ap (exceeds context.effort) (omitted-cost context tuple is omitted) ∙ above) omitted.within
  where
    not_over : (b : Bool) → b ≡ true → cond b (Some tuple) None ≡ None → ⊥
    not_over true is unspent = none-some tuple (sym unspent)
    not_over false is unspent = false≢true is

-- so an eager tree with as few branches as its plain cost allows is one of a proof
pub omitted-tree : (context : QuestionsView) (tuple : List (Option ℕ)) (format : ℕ) (earlier : List (List (Option ℕ))) (tokens : List Token)
    → IsSoundContext context → IsOmittedIn context tuple → is_eager context.model format earlier tuple tokens ≡ true
    → HasFewBranches context.effort tokens (plain_cost context.model context.prefs context.slice tuple)
    → IsEagerTree context.model context.prefs context.effort format earlier tuple tokens
omitted-tree context tuple format earlier tokens is omitted eager few = record {
  eager = eager;
  few = subst (HasFewBranches context.effort tokens) (sym (omitted-cost context tuple is omitted)) few;
}
