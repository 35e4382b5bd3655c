-- What holds of shorter suites. (This project's rules.)
use Rattle.std.specs.Prelude.{◌≡◌, ℕ, true, List, Option, All}
use Rattle.cov_model.specs.believed.Sound.{ModelView}
use Rattle.cov_model.specs.believed.Valid.{is_valid}
use Rattle.definitions.specs.believed.Verdict.{IsAccepted}
use Rattle.shorter_suites.specs.believed.Shrinking.{ServesToo}
use Rattle.shorter_suites.specs.believed.Bounds.{NeedsAtLeast, least_needed}
use Rattle.shorter_suites.specs.believed.Laws.{rows_of}

-- a proof that is accepted with a report is accepted with each one of valid rows that serve what the report's serve
abbrev pub AcceptedStay : Type 0
AcceptedStay = (m : ModelView) (given lines : List (ℕ × List (Option ℕ))) (bytes : List ℕ)
    → All (λ row. is_valid m row ≡ true) (rows_of lines) → ServesToo m (rows_of given) (rows_of lines)
    → IsAccepted m given bytes → IsAccepted m lines bytes

-- no valid rows that serve what given rows serve are fewer than the least number
abbrev pub NoneIsShorter : Type 0
NoneIsShorter = (m : ModelView) (given : List (List (Option ℕ))) → NeedsAtLeast m given (least_needed m given)
