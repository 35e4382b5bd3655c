-- The two parts of the choices of a model: those of units, and those of relations. (As in the definition
-- of the demanded sets.)
use Rattle.std.specs.Prelude.{ℕ, List, min, length}
use Rattle.std.specs.List.{flat_map}
use Rattle.cov_model.specs.declared.demand.Group.{Group}
use Rattle.cov_model.specs.believed.Sound.{ModelView}
use Rattle.definitions.specs.believed.Demand.{choose, unions, units}

-- the unions over any as many units as the order says, or over all where there are fewer
abbrev pub unit_choices : ModelView → List (List ℕ)
unit_choices m = flat_map unions (choose (min m.demand.order (length (units m))) (units m))

-- the subsets of each relation
abbrev pub subsets : List Group → List (List ℕ)
subsets relations = flat_map (λ relation. choose relation.order relation.members) relations
