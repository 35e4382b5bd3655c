-- The refusal of a report as the fault of a check, and the answer for a model as that for its file.
use Rattle.std.proofs.Common.{◌≡◌, ℕ, List, None, refl}
use Rattle.std.specs.Prelude.{Result, Ok, Err, IfSome}
use Rattle.cov_model.specs.believed.Sound.{ModelView}
use Rattle.definitions.specs.believed.RowReading as readings
use Rattle.model_lex.specs.declared.options.ModelOpts.{ModelOpts}
use Rattle.row_text.specs.Readings.{fault_of}
use Rattle.row_text.specs.declared.rows_fault.RowsFault.{RowsFault}
use Rattle.row_text.specs.declared.rows_fault.RowsFault.TheVariants.{NoHeader, Twice, Missing, TooManyRows, Width, NoMemory}
use Rattle.tuple_index.specs.believed.PlanFault.{limit_passed}
use Rattle.proof_check.specs.CheckSteps.{IsModelCheckOf}
use Rattle.proof_check.specs.Checks.{IsCheckOf}
use Rattle.proof_check.specs.believed.Checks.{Spells, report_of}
use Rattle.proof_check.specs.Faults.{fault_of_rows}
use Rattle.proof_check.specs.declared.verdict.Verdict.{Verdict}
use Rattle.proof_check.specs.declared.verdict.CheckFault.{CheckFault}
use Rattle.proof_check.specs.declared.verdict.CheckFault.TheVariants as faults

pub of_report : (m : ModelView) (report proof : List ℕ) → limit_passed m ≡ None
    → (fault : RowsFault) → IfSome (fault_of fault) (λ given. report_of m report ≡ Err given) → IsModelCheckOf m report proof (Err (fault_of_rows fault))
of_report m report proof within NoHeader is = (within, readings.NoHeader, refl, is)
of_report m report proof within (Twice line) is = (within, readings.Twice line, refl, is)
of_report m report proof within (Missing p) is = (within, readings.Missing p, refl, is)
of_report m report proof within (TooManyRows count) is = (within, readings.TooManyRows count, refl, is)
of_report m report proof within (Width line) is = (within, readings.Width line, refl, is)
of_report m report proof within NoMemory is = tt

pub of_model : (opts : ModelOpts) (model report proof : List ℕ) (m : ModelView) → Spells opts model m
    → (answer : Result Verdict CheckFault) → IsModelCheckOf m report proof answer → IsCheckOf opts model report proof answer
of_model opts model report proof m spells (Ok verdict) is = (m, spells, is.0, is.1.0, is.1.1, is.1.2)
of_model opts model report proof m spells (Err (faults.BadModel fault)) is = absurd is
of_model opts model report proof m spells (Err (faults.Limits fault)) is = (m, spells, is)
of_model opts model report proof m spells (Err (faults.Report fault)) is = (m, spells, is.0, is.1, is.2, is.3)
of_model opts model report proof m spells (Err faults.NoMemory) is = tt
