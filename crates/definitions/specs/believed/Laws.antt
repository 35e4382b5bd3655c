-- What holds of the definitions together. (This project's rules.)
use Rattle.std.specs.Prelude.{◌≡◌, ℕ, ◌⊎◌, true, List}
use Rattle.std.specs.Prelude.{Option, All}
use Rattle.std.specs.List.{Any}
use Rattle.cov_model.specs.believed.Sound.{ModelView}
use Rattle.cov_model.specs.believed.Valid.{is_valid, serves}
use Rattle.definitions.specs.believed.Covering.{IsUnserved}
use Rattle.definitions.specs.believed.Demand.{demanded_tuples}
use Rattle.definitions.specs.believed.Verdict.{IsListed}

-- if report and proof are accepted, every row is valid, and each demanded tuple is served by one of the
-- rows, or is listed, and then no row serves it
pub record IsCertified (m : ModelView) (lines : List (ℕ × List (Option ℕ))) (bytes : List ℕ) : Type 0 where
  pub valid : All (λ line. is_valid m line.1 ≡ true) lines
  pub covered : All (λ tuple. Any (λ line. serves m line.1 tuple ≡ true) lines ⊎ (IsListed m bytes tuple × IsUnserved m tuple)) (demanded_tuples m)
