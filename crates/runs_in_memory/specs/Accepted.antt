-- What the checker says of what `pict` printed. (This project's rule.)
use Rattle.std.specs.Prelude.{◌≡◌, ◌≢◌, ℕ, ◌≤◌, List, length, Result, Ok, Err}
use Rattle.cov_model.specs.believed.Sound.{ModelView}
use Rattle.model_lex.specs.declared.note.Note.{Note}
use Rattle.model_lex.specs.declared.options.ModelOpts.{ModelOpts}
use Rattle.definitions.specs.believed.Limits.{Rows, most_counted}
use Rattle.definitions.specs.believed.RowFile.{rows_of}
use Rattle.type_check.specs.believed.ModelOf.{IsModelOf}
use Rattle.pict_cli.specs.believed.Runs.{IsAcceptedWith}
use Rattle.proof_check.specs.Checks.{IsCheckOf}
use Rattle.proof_check.specs.declared.verdict.Verdict.{Verdict}
use Rattle.proof_check.specs.declared.verdict.Verdict.TheVariants.{Accepted}
use Rattle.proof_check.specs.declared.verdict.CheckFault.{CheckFault}
use Rattle.proof_check.specs.declared.verdict.CheckFault.TheVariants.{NoMemory}

-- a check of the bytes of a model file, and of a text and a proof that are accepted for its model, answers that both are
-- accepted, with the number of omissions, or that memory was refused: where the text has no more rows than a row file may
-- have
abbrev pub PrintedIsAccepted : Type 0
PrintedIsAccepted =
    (opts : ModelOpts) (model : List ℕ) (m : ModelView) (notes : List Note) (format : ℕ) (proof text : List ℕ) (answer : Result Verdict CheckFault)
    → IsModelOf opts model m notes → (accepted : IsAcceptedWith m format proof text) → length (rows_of m text) ≤ most_counted Rows
    → IsCheckOf opts model text proof answer → answer ≢ Err NoMemory → (rows : ℕ) × (answer ≡ Ok (Accepted rows (length accepted.omissions)))
