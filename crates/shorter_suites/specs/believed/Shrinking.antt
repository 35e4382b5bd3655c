-- What a shorter suite is that serves what given rows serve. (This project's rule.)
use Rattle.std.specs.Prelude.{◌≡◌, ℕ, ◌≤◌, Bool, true, false, List, length, Option, All, AllPairs}
use Rattle.std.specs.List.{list_any}
use Rattle.cov_model.specs.believed.Sound.{ModelView}
use Rattle.cov_model.specs.believed.Rows.{contains}
use Rattle.cov_model.specs.believed.Valid.{is_valid}
use Rattle.definitions.specs.believed.Demand.{demanded_tuples}
use Rattle.definitions.specs.believed.Figures.{is_served}
use Rattle.definitions.specs.believed.Seeds.{is_same_row}

-- each demanded tuple that a given row serves is served by one of the rows
abbrev pub ServesToo : ModelView → List (List (Option ℕ)) → List (List (Option ℕ)) → Type 0
ServesToo m given rows = All (λ tuple. is_served m given tuple ≡ true → is_served m rows tuple ≡ true) (demanded_tuples m)

-- one of the rows contains the partial row
abbrev pub is_contained : List (List (Option ℕ)) → List (Option ℕ) → Bool
is_contained rows cells = list_any (λ row. contains row cells) rows

-- every row is valid, and together they serve what the given rows serve; there are no more of them, and no
-- two are the same; and each seed that a given row contains is contained in one of them
pub record IsShrunk (m : ModelView) (given seeds rows : List (List (Option ℕ))) : Type 0 where
  pub valid : All (λ row. is_valid m row ≡ true) rows
  pub serves : ServesToo m given rows
  pub few : length rows ≤ length given
  pub distinct : AllPairs (λ a b. is_same_row a b ≡ false) rows
  pub kept : All (λ seed. is_contained given seed ≡ true → is_contained rows seed ≡ true) seeds
