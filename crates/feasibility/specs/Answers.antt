-- What a search that is held to a budget answers. (This project's rule.)
use Rattle.std.specs.Prelude.{◌≡◌, ℕ, ◌-◌, Bool, nat_lt, List, length, Option, if◌then◌else◌}
use Rattle.definitions.specs.believed.Search.{Outcome, constrained_params, visit}
use Rattle.feasibility.specs.declared.answer.Answer.{Answer}
use Rattle.feasibility.specs.declared.answer.Answer.TheVariants.{Yes, No, Spent}
use Rattle.feasibility.specs.Path.{reached}
use Rattle.feasibility.specs.Tree.{TreeView}

-- Spent where the cost exceeds the budget, and else whether a completion was found
abbrev pub answer_of : Bool → ℕ → ℕ → Answer
answer_of found cost budget = if nat_lt budget cost then Spent else if found then Yes else No

-- the answer to a visit with this outcome, what is left of the budget, and the cells afterwards: after Yes
-- those that the visit leads to, after No those before
pub record Told (outcome : Outcome) (path before after : List (Option ℕ)) (budget rest : ℕ) (given : Answer) : Type 0 where
  pub answer : given ≡ answer_of outcome.found outcome.cost budget
  pub left : rest ≡ budget - outcome.cost
  pub yes : given ≡ Yes → after ≡ path
  pub other : given ≡ No → after ≡ before
  pub long : length after ≡ length before

-- of a visit of a partial row, given the constrained parameters that are left
abbrev pub VisitTells : TreeView → List ℕ → List (Option ℕ) → List (Option ℕ) → List (Option ℕ) → ℕ → ℕ → Answer → Type 0
VisitTells tree params row before after budget left given =
    Told (visit tree.model tree.values params row) (reached tree.model tree.values params row) before after budget left given

-- the outcome of a search
abbrev pub searched : TreeView → List (Option ℕ) → Outcome
searched tree cells = visit tree.model tree.values (constrained_params tree.model) cells
