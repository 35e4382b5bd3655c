-- The omissions of a proof, one after another.
use Rattle.std.proofs.Common.{ℕ, ◌+◌, List, take, drop, Option}
use Rattle.cov_model.specs.believed.Sound.{ModelView}
use Rattle.definitions.specs.believed.Refutation.{first_unrefuted}
use Rattle.definitions.specs.believed.Verdict.{as_cells}
use Rattle.refutation.specs.Checking.{tuples_of}
use Rattle.refutation.specs.Reading.{omissions_meant}
use Rattle.refutation.specs.declared.omissions.Omission.{Omission}

-- the first omission, of these from a number on, whose tree is bad
abbrev pub first_from : ModelView → ℕ → List Omission → ℕ → Option ℕ
first_from m format omissions i =
    first_unrefuted m format (tuples_of m (take i omissions)) (i + 2) (as_cells m (omissions_meant (drop i omissions)))
