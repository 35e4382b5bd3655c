-- What is accepted as a text is accepted by a check of the bytes.
use Rattle.std.proofs.Common.{◌≡◌, ℕ, List, length, Result, Ok, Err, refl, ap, sym}
use Rattle.std.specs.Prelude.{◌≢◌, None, IsOkAnd}
use Rattle.cov_model.specs.believed.Sound.{ModelView}
use Rattle.model_lex.specs.declared.note.Note.{Note}
use Rattle.model_lex.specs.declared.options.ModelOpts.{ModelOpts}
use Rattle.definitions.specs.believed.RowReading.{RowReading, RowsFault, Suite, read_rows}
use Rattle.definitions.specs.believed.Verdict as defined
use Rattle.type_check.specs.believed.ModelOf.{IsModelOf}
use Rattle.tuple_index.specs.believed.PlanFault.{limit_passed}
use Rattle.proof_check.specs.Checks.{IsCheckOf}
use Rattle.proof_check.specs.believed.Checks.{verdict_given}
use Rattle.proof_check.specs.declared.verdict.Verdict.{Verdict}
use Rattle.proof_check.specs.declared.verdict.Verdict.TheVariants.{Accepted}
use Rattle.proof_check.specs.declared.verdict.CheckFault.{CheckFault}
use Rattle.proof_check.specs.declared.verdict.CheckFault.TheVariants.{NoMemory}
use Rattle.proof_check.proofs.OneCheck.{checks_have_one_answer}
use Rattle.runs_in_memory.specs.Accepted.{PrintedIsAccepted}

-- a text that is read so, with a verdict that accepts
accepted_as_read : (opts : ModelOpts) (model : List ℕ) (m : ModelView) (notes : List Note) (proof text : List ℕ) (answer : Result Verdict CheckFault) (omissions : ℕ)
    → IsModelOf opts model m notes → limit_passed m ≡ None → (read : Result RowReading RowsFault) → read_rows m Suite text ≡ read
    → IsOkAnd read (λ reading. defined.verdict m reading.rows proof ≡ defined.Accepted (length reading.rows) omissions)
    → IsCheckOf opts model text proof answer → answer ≢ Err NoMemory → (rows : ℕ) × (answer ≡ Ok (Accepted rows omissions))
accepted_as_read opts model m notes proof text answer omissions spelled within (Err fault) is none check told = absurd none
accepted_as_read opts model m notes proof text answer omissions spelled within (Ok reading) is accepts check told = (
  length reading.rows,
  checks_have_one_answer opts model text proof answer (Ok (Accepted (length reading.rows) omissions)) told (λ e. cc) check
      (m, (notes, spelled), within, reading, is, ap verdict_given (sym accepts)),
)

pub printed_is_accepted : PrintedIsAccepted
printed_is_accepted opts model m notes format proof text answer spelled accepted few check told =
    accepted_as_read opts model m notes proof text answer (length accepted.omissions) spelled accepted.within (read_rows m Suite text) refl (accepted.as_read few) check told
