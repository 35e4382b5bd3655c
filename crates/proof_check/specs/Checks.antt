-- What a check answers. (This project's rule.)
use Rattle.std.specs.Prelude.{◌≡◌, ◌≢◌, ℕ, List, Some, None, Result, Ok, Err}
use Rattle.cov_model.specs.believed.Sound.{ModelView}
use Rattle.model_lex.specs.declared.fault.ModelFault.TheVariants as models
use Rattle.model_lex.specs.declared.options.ModelOpts.{ModelOpts}
use Rattle.type_check.specs.believed.ModelOf.{IsRefusalOf}
use Rattle.definitions.specs.believed.RowReading as readings
use Rattle.definitions.specs.believed.Verdict as defined
use Rattle.tuple_index.specs.believed.PlanFault.{limit_passed}
use Rattle.row_text.specs.Readings.{fault_of}
use Rattle.proof_check.specs.declared.verdict.Verdict.{Verdict}
use Rattle.proof_check.specs.declared.verdict.CheckFault.{CheckFault}
use Rattle.proof_check.specs.declared.verdict.CheckFault.TheVariants.{BadModel, Limits, Report, NoMemory}
use Rattle.proof_check.specs.believed.Checks.{verdict_given, Spells, report_of}

-- the answer of a check of a model, a report and a proof: the verdict of the definition on the report's rows
-- and the proof, where the model and the report have their readings and no limit is passed; or else the
-- first fault of these three. Want of memory tells nothing
abbrev pub IsCheckOf : ModelOpts → List ℕ → List ℕ → List ℕ → Result Verdict CheckFault → Type 0
IsCheckOf opts model report proof (Ok verdict) =
    (m : ModelView) × Spells opts model m × (limit_passed m ≡ None) × (reading : readings.RowReading) × (report_of m report ≡ Ok reading)
    × (verdict ≡ verdict_given (defined.verdict m reading.rows proof))
IsCheckOf opts model report proof (Err (BadModel fault)) = IsRefusalOf opts model fault × (fault ≢ models.NoMemory)
IsCheckOf opts model report proof (Err (Limits fault)) = (m : ModelView) × Spells opts model m × (limit_passed m ≡ Some fault)
IsCheckOf opts model report proof (Err (Report fault)) =
    (m : ModelView) × Spells opts model m × (limit_passed m ≡ None)
    × (given : readings.RowsFault) × (fault_of fault ≡ Some given) × (report_of m report ≡ Err given)
IsCheckOf opts model report proof (Err NoMemory) = Unit {0}
