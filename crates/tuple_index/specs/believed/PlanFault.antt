-- When a model demands more than a plan holds. (This project's rule.)
use Rattle.std.specs.Prelude.{ℕ, ◌-◌, ◌^◌, min, length, Option, Some, None, nat_lt, if◌then◌else◌}
use Rattle.tuple_index.specs.declared.fault.PlanFault.{PlanFault}
use Rattle.tuple_index.specs.declared.fault.PlanFault.TheVariants.{TooManySets, TooManyTuples}
use Rattle.cov_model.specs.believed.Sound.{ModelView}
use Rattle.definitions.specs.believed.Demand.{choices, demanded_tuples}
use Rattle.definitions.specs.believed.Limits.{DemandedSets, DemandedTuples, most_counted}

-- a number, or the greatest of 64 bits where that is less
abbrev pub saturated : ℕ → ℕ
saturated n = min n (2 ^ 64 - 1)

-- the limit that a model passes, if any: that of choices of sets, then that of demanded tuples
abbrev pub limit_passed : ModelView → Option PlanFault
limit_passed m =
    if nat_lt (most_counted DemandedSets) (length (choices m)) then Some (TooManySets (saturated (length (choices m))))
    else if nat_lt (most_counted DemandedTuples) (length (demanded_tuples m)) then Some (TooManyTuples (saturated (length (demanded_tuples m))))
    else None
