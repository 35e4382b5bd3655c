-- The rows that repeat no earlier one. (This project's rule.)
use Rattle.std.specs.Prelude.{◌≡◌, ℕ, List, take, Option}
use Rattle.cov_model.specs.believed.Sound.{ModelView}
use Rattle.definitions.specs.believed.Seeds.{distinct}
use Rattle.shrink_search.specs.Fewer.{AreFewerBefore}

-- those of the first given rows, so many, which are the known ones
pub record AreFirst (m : ModelView) (given : List (List (Option ℕ))) (count : ℕ)
    (known : List (List (Option ℕ))) (numbers : List ℕ) (rows : List (List (Option ℕ))) : Type 0 where
  pub before : AreFewerBefore m given count numbers rows
  pub are_known : known ≡ rows
  pub are_distinct : rows ≡ distinct (take count given)
