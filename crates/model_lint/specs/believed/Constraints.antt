-- Constraints that change nothing, and conditions that never hold. (This project's rule.)
use Rattle.std.specs.Prelude.{ℕ, Bool, true, false, ◌&&◌, not, List, Option, ◌==◌}
use Rattle.std.specs.List.{filter, list_all, list_any}
use Rattle.cov_model.specs.believed.Meaning.{body_holds, pred_holds}
use Rattle.cov_model.specs.believed.Sound.{ModelView}
use Rattle.cov_model.specs.believed.Valid.{is_valid}
use Rattle.cov_model.specs.believed.Views.{BodyView, Plain, IfThen, IfElse, RuleView}
use Rattle.definitions.specs.believed.Figures.{all_rows}
use Rattle.model_lint.specs.believed.Tests.{part}

-- the constraint is true of every row that is valid without it
abbrev pub never_excludes : ModelView → RuleView → Bool
never_excludes m rule = list_all (λ row. body_holds m rule.body row) (filter (is_valid (part m (λ n. not (n == rule.number)))) (all_rows m))

-- the constraint has a condition
abbrev pub has_premise : BodyView → Bool
has_premise (Plain pred) = false
has_premise (IfThen premise pred) = true
has_premise (IfElse premise pred other) = true

-- the condition is true of a row; what is demanded of every row has one that is
abbrev pub premise_holds : ModelView → BodyView → List (Option ℕ) → Bool
premise_holds m (Plain pred) row = true
premise_holds m (IfThen premise pred) row = pred_holds m premise row
premise_holds m (IfElse premise pred other) row = pred_holds m premise row

-- it has a condition that is true of no valid row
abbrev pub never_applies : ModelView → RuleView → Bool
never_applies m rule = has_premise rule.body && not (list_any (λ row. is_valid m row && premise_holds m rule.body row) (all_rows m))
