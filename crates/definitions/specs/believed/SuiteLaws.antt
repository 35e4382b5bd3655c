-- What holds of the proof of a suite. (This project's rules.)
use Rattle.std.specs.Prelude.{◌≡◌, ℕ, true, false, List, Option, Ok, All, AllPairs, Contains}
use Rattle.std.specs.List.{list_any}
use Rattle.cov_model.specs.believed.Sound.{ModelView}
use Rattle.cov_model.specs.believed.Valid.{serves}
use Rattle.definitions.specs.believed.Covering.{IsUnserved}
use Rattle.definitions.specs.believed.Demand.{demanded_tuples}
use Rattle.definitions.specs.believed.Seeds.{is_same_row}
use Rattle.definitions.specs.believed.Refutation.{refutes_each}
use Rattle.definitions.specs.believed.ProofText.{Omission, omissions_of}
use Rattle.definitions.specs.believed.Verdict.{as_cells, listed}

-- the bytes are read as a proof of the format that lists the demanded tuples which no row serves, each once and no
-- others, and whose token lists each refute their tuple after the tuples before it
pub record ListsUnserved (m : ModelView) (format : ℕ) (bytes : List ℕ) : Type 0 where
  pub omissions : List Omission
  pub read : omissions_of m bytes ≡ Ok (format, omissions)
  pub unserved : All (λ tuple. Contains (demanded_tuples m) tuple × IsUnserved m tuple) (listed m omissions)
  pub once : AllPairs (λ a b. is_same_row a b ≡ false) (listed m omissions)
  pub complete : All (λ tuple. IsUnserved m tuple → list_any (is_same_row tuple) (listed m omissions) ≡ true) (demanded_tuples m)
  pub refute : refutes_each m format (as_cells m omissions) ≡ true

-- the tuple is refuted in the bytes: they are read as a proof of the format, each of whose token lists refutes its
-- tuple after the tuples before it, and one of whose omissions lists the tuple
pub record IsRefutedIn (m : ModelView) (format : ℕ) (bytes : List ℕ) (tuple : List (Option ℕ)) : Type 0 where
  pub omissions : List Omission
  pub read : omissions_of m bytes ≡ Ok (format, omissions)
  pub refute : refutes_each m format (as_cells m omissions) ≡ true
  pub lists : list_any (is_same_row tuple) (listed m omissions) ≡ true
