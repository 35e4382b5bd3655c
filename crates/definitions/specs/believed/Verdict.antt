-- What the checker says of a report and a proof. (This project's rule.)
use Rattle.std.specs.Prelude.{◌≡◌, ℕ, ◌&&◌, true, not, List, [], ◌++◌, map, length, find, Option, Some, None, Result, Ok, Err, codes, decimal}
use Rattle.std.specs.List.{list_any}
use Rattle.cov_model.specs.believed.Sound.{ModelView}
use Rattle.cov_model.specs.believed.Valid.{is_valid}
use Rattle.definitions.specs.believed.Demand.{demanded_tuples}
use Rattle.definitions.specs.believed.Seeds.{is_same_row}
use Rattle.definitions.specs.believed.Refutation.{Token, first_unrefuted}
use Rattle.cov_model.specs.believed.Tuples.{cells_of}
use Rattle.definitions.specs.believed.Pairs.{cells_text}
use Rattle.definitions.specs.believed.ProofText.{Omission, omissions_of}
use Rattle.definitions.specs.believed.Figures.{is_served}

-- accepted, with the numbers of rows and of omissions; or the line of a row that isn't valid, of a proof
-- line that is no spelling, or of one whose tree doesn't refute its tuple; or a demanded tuple that is
-- neither served nor listed
pub data Verdict : Type 0 where
  Accepted : ℕ → ℕ → Verdict
  BadRow : ℕ → Verdict
  BadProof : ℕ → Verdict
  BadOmission : ℕ → Verdict
  Uncovered : List (Option ℕ) → Verdict

-- the tuples that omissions list
abbrev pub listed : ModelView → List Omission → List (List (Option ℕ))
listed m omissions = map (λ omission. cells_of (length m.params) omission.tuple) omissions

-- omissions as partial rows with their tokens
abbrev pub as_cells : ModelView → List Omission → List (List (Option ℕ) × List Token)
as_cells m omissions = map (λ omission. (cells_of (length m.params) omission.tuple, omission.tree)) omissions

-- the first demanded tuple that no row serves and no omission lists
abbrev pub first_uncovered : ModelView → List (List (Option ℕ)) → List Omission → Option (List (Option ℕ))
first_uncovered m rows omissions =
    find (λ tuple. not (is_served m rows tuple) && not (list_any (is_same_row tuple) (listed m omissions))) (demanded_tuples m)

-- the verdict where rows and trees are good, by the first demanded tuple that is left
abbrev pub by_tuple : ℕ → ℕ → Option (List (Option ℕ)) → Verdict
by_tuple rows omissions (Some tuple) = Uncovered tuple
by_tuple rows omissions None = Accepted rows omissions

-- where the rows are good and the proof has its reading, by the first line whose tree is bad
abbrev pub by_omission : ModelView → List (List (Option ℕ)) → List Omission → Option ℕ → Verdict
by_omission m rows omissions (Some line) = BadOmission line
by_omission m rows omissions None = by_tuple (length rows) (length omissions) (first_uncovered m rows omissions)

-- where the rows are good, by the reading of the proof, whose first omission stands on line 2
abbrev pub by_proof : ModelView → List (List (Option ℕ)) → Result (ℕ × List Omission) ℕ → Verdict
by_proof m rows (Err line) = BadProof line
by_proof m rows (Ok proof) = by_omission m rows proof.1 (first_unrefuted m proof.0 [] 2 (as_cells m proof.1))

-- by the first bad row
abbrev pub by_row : ModelView → List (List (Option ℕ)) → List ℕ → Option (ℕ × List (Option ℕ)) → Verdict
by_row m rows bytes (Some line) = BadRow line.0
by_row m rows bytes None = by_proof m rows (omissions_of m bytes)

-- the verdict on the rows of a report, each with its line, and the bytes of a proof file: the first of these
-- that applies; a row that isn't complete isn't valid
abbrev pub verdict : ModelView → List (ℕ × List (Option ℕ)) → List ℕ → Verdict
verdict m lines bytes = by_row m (map (λ line. line.1) lines) bytes (find (λ line. not (is_valid m line.1)) lines)

-- the report and the proof are accepted
abbrev pub IsAccepted : ModelView → List (ℕ × List (Option ℕ)) → List ℕ → Type 0
IsAccepted m lines bytes = (rows : ℕ) × (omissions : ℕ) × (verdict m lines bytes ≡ Accepted rows omissions)

-- a line of the proof file lists the tuple
abbrev pub IsListed : ModelView → List ℕ → List (Option ℕ) → Type 0
IsListed m bytes tuple = (proof : ℕ × List Omission) × (omissions_of m bytes ≡ Ok proof) × (list_any (is_same_row tuple) (listed m proof.1) ≡ true)

-- the line that tells the verdict
abbrev pub verdict_text : Verdict → List ℕ
verdict_text (Accepted rows omissions) = codes "accepted: " ++ decimal rows ++ codes " rows, " ++ decimal omissions ++ codes " omissions\n"
verdict_text (BadRow line) = codes "refused: report line " ++ decimal line ++ codes ": not a valid row\n"
verdict_text (BadProof line) = codes "refused: proof line " ++ decimal line ++ codes ": not a proof line\n"
verdict_text (BadOmission line) = codes "refused: proof line " ++ decimal line ++ codes ": the tree does not refute the tuple\n"
verdict_text (Uncovered tuple) = codes "refused: uncovered " ++ cells_text tuple ++ codes "\n"
