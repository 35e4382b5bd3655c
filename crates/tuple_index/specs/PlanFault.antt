-- When a model demands more than a plan holds. (This project's rule.)
use Rattle.std.specs.Prelude.{◌≡◌, ◌-◌, Some}
use Rattle.tuple_index.specs.declared.fault.PlanFault.{PlanFault}
use Rattle.tuple_index.specs.declared.fault.PlanFault.TheVariants.{TooManySets, TooManyTuples, NoMemory}
use Rattle.cov_model.specs.believed.Sound.{ModelView}
use Rattle.tuple_index.specs.believed.PlanFault.{limit_passed}

-- a fault of a limit is that of the limit passed
abbrev pub IsFaultOf : ModelView → PlanFault → Type 0
IsFaultOf m NoMemory = Unit {0}
IsFaultOf m (TooManySets n) = limit_passed m ≡ Some (TooManySets n)
IsFaultOf m (TooManyTuples n) = limit_passed m ≡ Some (TooManyTuples n)
