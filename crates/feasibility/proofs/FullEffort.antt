-- A search that ended early: without a budget for want of memory alone.
use Rattle.std.proofs.Common.{◌≡◌, ℕ, List, Option, None, Some, refl, subst}
use Rattle.std.specs.Prelude.{option_map}
use Rattle.std.proofs.lemmas.Option.{none-some}
use Rattle.value_text.proofs.ListLemmas.{nothing_found}
use Rattle.cov_model.specs.believed.Sound.{ModelView}
use Rattle.definitions.specs.declared.effort.Effort.{Effort}
use Rattle.definitions.specs.declared.effort.Effort.TheVariants.{Within, Full}
use Rattle.definitions.specs.believed.Pairs.{pairs_of}
use Rattle.definitions.specs.believed.Search.{exceeds, first_over, question_cost}
use Rattle.feasibility.specs.Ends.{EndsBy}
use Rattle.feasibility.specs.declared.answer.SearchFault.{SearchFault}
use Rattle.feasibility.specs.declared.answer.SearchFault.TheVariants as faults

-- no question is above the budget where there is none
first_over_full : (m : ModelView) (pref : List (List ℕ)) (questions : List (List (Option ℕ))) → first_over m pref Full questions ≡ None
first_over_full m pref questions = nothing_found (λ cells. exceeds Full (question_cost m pref cells)) questions (λ k d within. refl)

pub ends_full : (m : ModelView) (pref : List (List ℕ)) (effort : Effort) (questions : List (List (Option ℕ))) (fault : SearchFault)
    → EndsBy (first_over m pref effort questions) fault → effort ≡ Full → fault ≡ faults.NoMemory
ends_full m pref (Within budget) questions fault ends full = let no : ⊥ = cc in absurd no
ends_full m pref Full questions (faults.Spent question) ends full =
    absurd (none-some question.cells (subst (λ over. option_map pairs_of over ≡ Some question.cells) (first_over_full m pref questions) ends))
ends_full m pref Full questions faults.NoMemory ends full = refl
