-- What the steps of a check answer, of which the model was read before. (This project's rule.)
use Rattle.std.specs.Prelude.{◌≡◌, ℕ, List, Some, None, Result, Ok, Err, IfSome}
use Rattle.cov_model.specs.believed.Sound.{ModelView}
use Rattle.definitions.specs.believed.RowReading as readings
use Rattle.definitions.specs.believed.Verdict as defined
use Rattle.tuple_index.specs.believed.PlanFault.{limit_passed}
use Rattle.row_text.specs.Readings.{fault_of}
use Rattle.row_text.specs.declared.rows_fault.RowsFault.{RowsFault}
use Rattle.proof_check.specs.believed.Checks.{report_of, verdict_given}
use Rattle.proof_check.specs.declared.verdict.Verdict.{Verdict}
use Rattle.proof_check.specs.declared.verdict.CheckFault.{CheckFault}
use Rattle.proof_check.specs.declared.verdict.CheckFault.TheVariants.{BadModel, Limits, Report, NoMemory}

-- the answer on a report and a proof for a model that passes no limit: the verdict of the definition on the
-- report's rows and the proof, or the fault of the report. Want of memory tells nothing
abbrev pub IsReportCheckOf : ModelView → List ℕ → List ℕ → Result Verdict RowsFault → Type 0
IsReportCheckOf m report proof (Ok verdict) =
    (reading : readings.RowReading) × (report_of m report ≡ Ok reading) × (verdict ≡ verdict_given (defined.verdict m reading.rows proof))
IsReportCheckOf m report proof (Err fault) = IfSome (fault_of fault) (λ given. report_of m report ≡ Err given)

-- the same for any model: or the limit that it passes. The fault is never one of the model's file
abbrev pub IsModelCheckOf : ModelView → List ℕ → List ℕ → Result Verdict CheckFault → Type 0
IsModelCheckOf m report proof (Ok verdict) = (limit_passed m ≡ None) × IsReportCheckOf m report proof (Ok verdict)
IsModelCheckOf m report proof (Err (BadModel fault)) = ⊥
IsModelCheckOf m report proof (Err (Limits fault)) = limit_passed m ≡ Some fault
IsModelCheckOf m report proof (Err (Report fault)) =
    (limit_passed m ≡ None) × (given : readings.RowsFault) × (fault_of fault ≡ Some given) × (report_of m report ≡ Err given)
IsModelCheckOf m report proof (Err NoMemory) = Unit {0}
