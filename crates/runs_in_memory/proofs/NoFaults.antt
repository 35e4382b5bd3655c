-- A count of faults that stays 0 doesn't rise.
use Rattle.std.proofs.Common.{ℕ, List, Option, None, Some, inl, inr, arith}
use Rattle.std.specs.Prelude.{IsSomeAnd}
use Rattle.outside_io.specs.believed.Faults.{Rose}

pub never_rose : ¬ Rose 0 0
never_rose (inl less) = omega (arith, less)
never_rose (inr last) = omega (arith, last)

pub none_rose : (file : Option (List ℕ)) → ¬ IsSomeAnd file (λ name. Rose 0 0)
none_rose None none = none
none_rose (Some name) rose = never_rose rose
