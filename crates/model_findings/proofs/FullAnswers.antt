-- What the answers of a search tell that answers every question.
use Rattle.std.proofs.Common.{◌≡◌, ℕ, Bool, true, false, List, Option, Some, refl, ap, ◌∙◌}
use Rattle.cov_model.specs.declared.slice.Slice.{Slice}
use Rattle.cov_model.specs.believed.Sound.{ModelView}
use Rattle.definitions.specs.declared.effort.Effort.TheVariants.{Full}
use Rattle.definitions.specs.believed.Completion.{first_completion, is_extendable}
use Rattle.definitions.specs.believed.Search.{plain_cost}
use Rattle.feasibility.specs.declared.answer.Answer.{Answer}
use Rattle.feasibility.specs.declared.answer.Answer.TheVariants.{Yes, No, Spent}
use Rattle.full_search.specs.Questions.{QuestionsView, answer_within}
use Rattle.model_findings.specs.Answers.{is_yes}

-- all questions about a slice
abbrev pub every : ModelView → List (List ℕ) → Slice → QuestionsView
every m prefs slice = record { model = m; prefs = prefs; slice = slice; effort = Full }

pub full_found : (q : QuestionsView) (m : ModelView) (prefs : List (List ℕ)) (slice : Slice) (cells : List (Option ℕ)) (answer : Answer) → q ≡ every m prefs slice
    → answer ≡ answer_within (is_extendable q.model q.slice cells) (plain_cost q.model q.prefs q.slice cells) q.effort → is_yes answer ≡ is_extendable m slice cells
full_found q m prefs slice cells answer is means =
    ap is_yes (means ∙ ap (λ (r : QuestionsView). answer_within (is_extendable r.model r.slice cells) (plain_cost r.model r.prefs r.slice cells) r.effort) is)
    ∙ at (is_extendable m slice cells) (plain_cost m prefs slice cells)
  where
    at : (found : Bool) (cost : ℕ) → is_yes (answer_within found cost Full) ≡ found
    at true cost = refl
    at false cost = refl

yes_is : (answer : Answer) → is_yes answer ≡ true → answer ≡ Yes
yes_is Yes is = refl
yes_is No is = cc
yes_is Spent is = cc

pub full_completed : (q : QuestionsView) (m : ModelView) (prefs : List (List ℕ)) (slice : Slice) (cells row : List (Option ℕ)) (answer : Answer) → q ≡ every m prefs slice
    → (answer ≡ Yes → Some row ≡ first_completion q.model q.prefs q.slice cells) → is_yes answer ≡ true → Some row ≡ first_completion m prefs slice cells
full_completed q m prefs slice cells row answer is completed found =
    completed (yes_is answer found) ∙ ap (λ (r : QuestionsView). first_completion r.model r.prefs r.slice cells) is
