-- The faults of the layers below as faults of a check: their want of memory is its own. (This project's rule.)
use Rattle.model_lex.specs.declared.fault.ModelFault.{ModelFault}
use Rattle.model_lex.specs.declared.fault.ModelFault.TheVariants as models
use Rattle.tuple_index.specs.declared.fault.PlanFault.{PlanFault}
use Rattle.tuple_index.specs.declared.fault.PlanFault.TheVariants as plans
use Rattle.row_text.specs.declared.rows_fault.RowsFault.{RowsFault}
use Rattle.row_text.specs.declared.rows_fault.RowsFault.TheVariants as files
use Rattle.proof_check.specs.declared.verdict.CheckFault.{CheckFault}
use Rattle.proof_check.specs.declared.verdict.CheckFault.TheVariants.{BadModel, Limits, Report, NoMemory}

abbrev pub fault_of_model : ModelFault → CheckFault
fault_of_model (models.Bad diag) = BadModel (models.Bad diag)
fault_of_model (models.BadRule diag) = BadModel (models.BadRule diag)
fault_of_model (models.Limit name count) = BadModel (models.Limit name count)
fault_of_model models.NoMemory = NoMemory

abbrev pub fault_of_plan : PlanFault → CheckFault
fault_of_plan (plans.TooManySets n) = Limits (plans.TooManySets n)
fault_of_plan (plans.TooManyTuples n) = Limits (plans.TooManyTuples n)
fault_of_plan plans.NoMemory = NoMemory

abbrev pub fault_of_rows : RowsFault → CheckFault
fault_of_rows files.NoHeader = Report files.NoHeader
fault_of_rows (files.Twice line) = Report (files.Twice line)
fault_of_rows (files.Missing p) = Report (files.Missing p)
fault_of_rows (files.TooManyRows count) = Report (files.TooManyRows count)
fault_of_rows (files.Width line) = Report (files.Width line)
fault_of_rows files.NoMemory = NoMemory
