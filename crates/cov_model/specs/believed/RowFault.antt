-- What is wrong with a row. (The rule on negative values is PICT's guide's.)
use Rattle.std.specs.Prelude.{ℕ, not, List, ◌∷◌, Option, Some, None, find}
use Rattle.cov_model.specs.believed.Views.{RuleView}
use Rattle.cov_model.specs.declared.row_fault.RowWhy as faults
use Rattle.cov_model.specs.declared.row_fault.RowWhy.{RowWhy}
use Rattle.cov_model.specs.declared.row_fault.RowWhy.TheVariants.{Negatives}
use Rattle.cov_model.specs.believed.Sound.{ModelView}
use Rattle.cov_model.specs.believed.Meaning.{body_holds}
use Rattle.cov_model.specs.believed.Valid.{negatives}

-- the first two of the parameters with negative values
abbrev pub first_two : List ℕ → Option RowWhy
first_two (p ∷ q ∷ rest) = Some (Negatives p q)
first_two _ = None

-- a constraint that is false, else two parameters with negative values
abbrev pub fault_of : Option RuleView → List ℕ → Option RowWhy
fault_of (Some rule) params = Some (faults.TheVariants.Rule rule.number)
fault_of None params = first_two params

-- the first constraint that is false on a row, else the first two parameters with negative values
abbrev pub row_fault : ModelView → List (Option ℕ) → Option RowWhy
row_fault m row = fault_of (find (λ rule. not (body_holds m rule.body row)) m.rules) (negatives m row)
