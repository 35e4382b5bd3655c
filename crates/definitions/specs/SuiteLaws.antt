-- What holds of the proof of a suite. (This project's rules.)
use Rattle.std.specs.Prelude.{◌≡◌, ℕ, ◌^◌, ◌<◌, ◌⊎◌, true, List, map, length, Option, Ok, All}
use Rattle.std.specs.List.{Any}
use Rattle.cov_model.specs.Preference.{OrdersValues}
use Rattle.cov_model.specs.believed.Sound.{ModelView, IsSound}
use Rattle.cov_model.specs.believed.Valid.{serves}
use Rattle.definitions.specs.declared.effort.Effort.{Effort}
use Rattle.definitions.specs.believed.Covering.{IsUnserved}
use Rattle.definitions.specs.believed.Demand.{demanded_tuples}
use Rattle.definitions.specs.believed.Growth.{growth}
use Rattle.definitions.specs.believed.Refutation.{refutes_each}
use Rattle.definitions.specs.believed.ProofText.{omissions_of}
use Rattle.definitions.specs.believed.Verdict.{Accepted, as_cells, verdict}
use Rattle.definitions.specs.believed.SuiteProof.{IsProofOfSuite}
use Rattle.definitions.specs.Laws.{IsOmissionOf}
use Rattle.definitions.specs.believed.SuiteLaws.{ListsUnserved, IsRefutedIn}

-- what these laws are about: the proof, in format 1 or 2, of the suite of a sound model with preference orders and
-- any seed rows, where fewer than 2^32 tuples are demanded, so that each omission has a number that a token can cite
pub record IsSoundProof (m : ModelView) (pref : List (List ℕ)) (seeds : List (ℕ × List (Option ℕ))) (effort : Effort) (format : ℕ) (bytes : List ℕ) : Type 0 where
  pub sound : IsSound m
  pub orders : OrdersValues m pref
  pub known : (format ≡ 1) ⊎ (format ≡ 2)
  pub few : length (demanded_tuples m) < 2 ^ 32
  pub proof : IsProofOfSuite m pref seeds effort format bytes

-- each of its token lists refutes its tuple after the tuples before it
abbrev pub SuiteProofsRefute : Type 0
SuiteProofsRefute = (m : ModelView) (pref : List (List ℕ)) (seeds : List (ℕ × List (Option ℕ))) (effort : Effort) (format : ℕ) (bytes : List ℕ)
    (is : IsSoundProof m pref seeds effort format bytes) → refutes_each m format (as_cells m is.proof.omissions) ≡ true

-- its omissions are of the model and the format
abbrev pub SuiteProofsAreOfModels : Type 0
SuiteProofsAreOfModels = (m : ModelView) (pref : List (List ℕ)) (seeds : List (ℕ × List (Option ℕ))) (effort : Effort) (format : ℕ) (bytes : List ℕ)
    (is : IsSoundProof m pref seeds effort format bytes) → All (IsOmissionOf m format) is.proof.omissions

-- so its bytes are read back as the format and the omissions
abbrev pub SuiteProofsReadBack : Type 0
SuiteProofsReadBack = (m : ModelView) (pref : List (List ℕ)) (seeds : List (ℕ × List (Option ℕ))) (effort : Effort) (format : ℕ) (bytes : List ℕ)
    (is : IsSoundProof m pref seeds effort format bytes) → omissions_of m bytes ≡ Ok (format, is.proof.omissions)

-- this is what the bytes of a suite's proof are read as
abbrev pub SuiteProofsList : Type 0
SuiteProofsList = (m : ModelView) (pref : List (List ℕ)) (seeds : List (ℕ × List (Option ℕ))) (effort : Effort) (format : ℕ) (bytes : List ℕ)
    → IsSoundProof m pref seeds effort format bytes → ListsUnserved m format bytes

-- each demanded tuple is served by a row of the suite, or no row of the model serves it and the proof refutes it
abbrev pub SuitesServeOrRefute : Type 0
SuitesServeOrRefute = (m : ModelView) (pref : List (List ℕ)) (seeds : List (ℕ × List (Option ℕ))) (effort : Effort) (format : ℕ) (bytes : List ℕ)
    → IsSoundProof m pref seeds effort format bytes
    → All (λ tuple. Any (λ row. serves m row tuple ≡ true) (growth m pref seeds).rows ⊎ (IsUnserved m tuple × IsRefutedIn m format bytes tuple)) (demanded_tuples m)

-- the suite's rows, on lines of any numbers, are accepted with its proof
abbrev pub SuiteProofsAreAccepted : Type 0
SuiteProofsAreAccepted = (m : ModelView) (pref : List (List ℕ)) (seeds : List (ℕ × List (Option ℕ))) (effort : Effort) (format : ℕ) (bytes : List ℕ)
    (lines : List (ℕ × List (Option ℕ))) (is : IsSoundProof m pref seeds effort format bytes) → map (λ line. line.1) lines ≡ (growth m pref seeds).rows
    → verdict m lines bytes ≡ Accepted (length lines) (length is.proof.omissions)
