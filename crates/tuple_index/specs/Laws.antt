-- What holds of ranks. (This project's rule.)
use Rattle.std.specs.Prelude.{◌≡◌, ◌↔◌, ℕ, List, All, Some, slice_get}
use Rattle.cov_model.specs.believed.Sound.{ModelView}
use Rattle.definitions.specs.believed.Demand.{demanded_sets, tuples_of}
use Rattle.tuple_index.specs.Plan.{IsChoice, plan_of, tuple_cells}

-- the tuple of these values of a set has this rank
abbrev pub HasRank : ModelView → List ℕ → List ℕ → ℕ → Type 0
HasRank m set values rank = slice_get (tuples_of m set) rank ≡ Some (tuple_cells m set values)

-- ranks and tuples are inverse: two choices of values of a demanded set have one rank exactly if they are one
abbrev pub RanksAreInverse : Type 0
RanksAreInverse = (m : ModelView)
    → All (λ set. (values others : List ℕ) (rank other : ℕ) → IsChoice (plan_of m) set values → IsChoice (plan_of m) set others
    → HasRank m set values rank → HasRank m set others other → (rank ≡ other) ↔ (values ≡ others)) (demanded_sets m)
