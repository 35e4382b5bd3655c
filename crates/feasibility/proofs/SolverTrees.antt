-- The tree of a tuple of a solver's slice.
use Rattle.std.proofs.Common.{◌≡◌, ℕ, ◌<◌, ◌≤◌, inl, inr, Bool, true, false, List, Option, ◌∙◌, sym, ap}
use Rattle.std.proofs.lemmas.Bool.{false≢true, cases_lt, false_from_ne_true}
use Rattle.cov_model.specs.declared.slice.Slice.{Slice}
use Rattle.cov_model.specs.believed.Sound.{ModelView, IsSound}
use Rattle.cov_model.specs.believed.Slices.{slice_of}
use Rattle.cov_model.specs.believed.Valid.{serves}
use Rattle.definitions.specs.believed.Completion.{has_slice, is_extendable}
use Rattle.definitions.specs.believed.Covering.{IsUnserved}
use Rattle.definitions.specs.believed.Figures.{all_rows}
use Rattle.definitions.specs.believed.Search.{constrained_params, plain_cost, visit}
use Rattle.definitions.specs.SliceRows.{IsOfSlice}
use Rattle.definitions.proofs.Members.{of_any}
use Rattle.definitions.proofs.Serving.{servable_are_extendable}
use Rattle.live_sets.specs.Trail.{LiveView}
use Rattle.feasibility.specs.declared.answer.Answer.{Answer}
use Rattle.feasibility.specs.declared.answer.Answer.TheVariants.{No, Spent}
use Rattle.feasibility.specs.Answers.{answer_of}
use Rattle.feasibility.specs.Solving.{IsSolver, SolverView}
use Rattle.feasibility.proofs.Extendable.{plain_search_is_exact}
use Rattle.feasibility.proofs.Paths.{slice_few}
use Rattle.feasibility.proofs.Visits.{answer_enough, answer_spent, told_spent}

-- a tuple that no row serves isn't extendable in its slice
unserved_ends : (m : ModelView) (slice : Slice) (tuple : List (Option ℕ)) → IsSound m → has_slice m tuple ≡ true → slice_of m tuple ≡ slice
    → IsUnserved m tuple → is_extendable m slice tuple ≡ false
unserved_ends m slice tuple sound few same unserved =
    false_from_ne_true (is_extendable m slice tuple) (λ extends.
    let served = servable_are_extendable m tuple sound few ∙ ap (λ (s : Slice). is_extendable m s tuple) same ∙ extends in
    let found = of_any (λ row. serves m row tuple) (all_rows m) served in
    false≢true (sym (unserved found.0) ∙ found.2))

-- so a search of it finds nothing
pub solver_unfound : (solver : SolverView) (lists : List (List ℕ)) (room : List (Option ℕ)) (fails : Bool) (sets : LiveView) (tuple : List (Option ℕ))
    → IsSolver solver lists room fails sets → IsSound solver.model
    → IsOfSlice solver.model solver.slice tuple → slice_of solver.model tuple ≡ solver.slice → IsUnserved solver.model tuple
    → (visit solver.model lists (constrained_params solver.model) tuple).found ≡ false
solver_unfound solver lists room fails sets tuple is sound of same unserved =
    ap (λ (values : List (List ℕ)). (visit solver.model values (constrained_params solver.model) tuple).found) is.tried
    ∙ (plain_search_is_exact solver.model solver.prefs solver.slice tuple sound is.orders is.slice of).0
    ∙ unserved_ends solver.model solver.slice tuple sound (slice_few solver.model solver.slice tuple is.slice of same) same unserved

-- and answers No, or that the budget is spent
pub record EndsBy (cost budget : ℕ) (answer : Answer) : Type 0 where
  pub spent : answer ≡ Spent → budget < cost
  pub within : (answer ≡ Spent → ⊥) → cost ≤ budget
  pub no : (answer ≡ Spent → ⊥) → answer ≡ No

pub ends_by : (found : Bool) (cost budget : ℕ) (answer : Answer) → answer ≡ answer_of found cost budget → found ≡ false → EndsBy cost budget answer
ends_by found cost budget answer told unfound = record {
  spent = λ e. told_spent false cost budget (sym e ∙ ends);
  within = λ other. elim (cases_lt budget cost) [
    | inl over ↦ absurd (other (ends ∙ answer_spent false cost budget over))
    | inr enough ↦ enough
  ];
  no = λ other. elim (cases_lt budget cost) [
    | inl over ↦ absurd (other (ends ∙ answer_spent false cost budget over))
    | inr enough ↦ ends ∙ answer_enough false cost budget enough
  ];
}
  where
    ends : answer ≡ answer_of false cost budget
    ends = told ∙ ap (λ (b : Bool). answer_of b cost budget) unfound

-- what it costs
pub solver_costs : (solver : SolverView) (lists : List (List ℕ)) (room : List (Option ℕ)) (fails : Bool) (sets : LiveView) (tuple : List (Option ℕ))
    → IsSolver solver lists room fails sets
    → (visit solver.model lists (constrained_params solver.model) tuple).cost ≡ plain_cost solver.model solver.prefs solver.slice tuple
solver_costs solver lists room fails sets tuple is =
    ap (λ (values : List (List ℕ)). (visit solver.model values (constrained_params solver.model) tuple).cost) is.tried
