-- Why a run may end before its output is written whole: its status, and its line on standard error.
-- (This project's rules.)
use Rattle.std.specs.Prelude.{ℕ, List}
use Rattle.model_lex.specs.believed.Codes.{diag_code, diag_text}
use Rattle.model_lex.specs.declared.fault.LimitName.{LimitName}
use Rattle.model_lex.specs.declared.fault.LimitName.TheVariants.{Params, Values, Names, Rules}
use Rattle.model_lex.specs.declared.fault.ModelFault.{ModelFault}
use Rattle.model_lex.specs.declared.fault.ModelFault.TheVariants.{Bad, BadRule, Limit}
use Rattle.model_lex.specs.declared.fault.ModelFault.TheVariants as model_faults
use Rattle.tuple_index.specs.declared.fault.PlanFault.{PlanFault}
use Rattle.tuple_index.specs.declared.fault.PlanFault.TheVariants.{TooManySets, TooManyTuples}
use Rattle.tuple_index.specs.declared.fault.PlanFault.TheVariants as plan_faults
use Rattle.definitions.specs.believed.Limits as limits
use Rattle.definitions.specs.believed.Diagnostics.{bad_result_line, bytes_limit_line, cannot_read_line, cannot_write_line, cannot_write_report_line, count_limit_line, memory_line, model_line}
use Rattle.definitions.specs.believed.Diagnostics.{no_column_line, no_header_line, no_result_line, spent_line, too_wide_line, two_columns_line, word_line}
use Rattle.command_line.specs.declared.stop.Stop.{Stop}
use Rattle.row_text.specs.declared.rows_fault.RowsFault.{RowsFault}
use Rattle.row_text.specs.declared.rows_fault.RowsFault.TheVariants.{NoHeader, Twice, Missing, TooManyRows, Width}
use Rattle.row_text.specs.declared.rows_fault.RowsFault.TheVariants as rows_faults
use Rattle.command_line.specs.declared.files.FileKind.{FileKind}
use Rattle.command_line.specs.declared.files.FileKind.TheVariants as kinds
use Rattle.command_line.specs.declared.stop.Stop.TheVariants.{OutOfMemory, Spent, BadWord, BadModel, BadConstraint, BadRows, NoResult, BadResult, CannotRead}
use Rattle.command_line.specs.declared.stop.Stop.TheVariants.{CannotWrite, CannotWriteReport, TooMany, TooLong}
use Rattle.command_line.specs.declared.stop.Quantity.{Quantity}
use Rattle.command_line.specs.declared.stop.Quantity.TheVariants.{Part, DemandedSets, DemandedTuples, Rows, SuspectCandidates}

-- what is counted
abbrev pub counted_part : LimitName → limits.Counted
counted_part Params = limits.Parameters
counted_part Values = limits.Values
counted_part Names = limits.Names
counted_part Rules = limits.Constraints

abbrev pub counted : Quantity → limits.Counted
counted (Part limit) = counted_part limit
counted DemandedSets = limits.DemandedSets
counted DemandedTuples = limits.DemandedTuples
counted Rows = limits.Rows
counted SuspectCandidates = limits.SuspectCandidates

-- the limit of bytes that a file has
abbrev pub measured : FileKind → limits.Measured
measured kinds.Model = limits.ModelFile
measured kinds.Rows = limits.RowFile
measured kinds.Proof = limits.ProofFile

-- the stop of a refusal of the model file
abbrev pub stop_of_model : ModelFault → Stop
stop_of_model (Bad diag) = BadModel diag
stop_of_model (BadRule diag) = BadConstraint diag
stop_of_model (Limit limit count) = TooMany (Part limit) count
stop_of_model (model_faults.NoMemory) = OutOfMemory

-- the stop of a demand that passes a limit
abbrev pub stop_of_plan : PlanFault → Stop
stop_of_plan (TooManySets count) = TooMany DemandedSets count
stop_of_plan (TooManyTuples count) = TooMany DemandedTuples count
stop_of_plan (plan_faults.NoMemory) = OutOfMemory

abbrev pub status_of : Stop → ℕ
status_of OutOfMemory = 1
status_of (Spent budget question) = 2
status_of (BadWord index) = 3
status_of (BadModel diag) = 4
status_of (BadConstraint diag) = 5
status_of (BadRows fault) = 6
status_of NoResult = 6
status_of (BadResult line) = 6
status_of (CannotRead kind) = 7
status_of (CannotWrite kind) = 8
status_of CannotWriteReport = 8
status_of (TooMany quantity count) = 9
status_of (TooLong kind) = 9

-- the names of the files of a run; the empty name stands for a file that the words don't ask for
pub record NamesView : Type 0 where
  pub model : List ℕ
  pub rows : List ℕ
  pub proof : List ℕ

abbrev pub name_of : NamesView → FileKind → List ℕ
name_of names kinds.Model = names.model
name_of names kinds.Rows = names.rows
name_of names kinds.Proof = names.proof

-- the line of a refusal of a file of rows; of one with too many rows, or for want of memory, that of its stop
abbrev pub rows_line : RowsFault → List ℕ
rows_line NoHeader = no_header_line
rows_line (Twice line) = two_columns_line line
rows_line (Missing parameter) = no_column_line parameter
rows_line (TooManyRows count) = count_limit_line limits.Rows count
rows_line (Width line) = too_wide_line line
rows_line (rows_faults.NoMemory) = memory_line

-- the line, where the files have these names
abbrev pub line_of : Stop → NamesView → List ℕ
line_of OutOfMemory names = memory_line
line_of (Spent budget question) names = spent_line budget question
line_of (BadWord index) names = word_line index
line_of (BadModel diag) names = model_line diag.line (diag_code diag.code) (diag_text diag.code)
line_of (BadConstraint diag) names = model_line diag.line (diag_code diag.code) (diag_text diag.code)
line_of (BadRows fault) names = rows_line fault
line_of NoResult names = no_result_line
line_of (BadResult line) names = bad_result_line line
line_of (CannotRead kind) names = cannot_read_line (name_of names kind)
line_of (CannotWrite kind) names = cannot_write_line (name_of names kind)
line_of CannotWriteReport names = cannot_write_report_line
line_of (TooMany quantity count) names = count_limit_line (counted quantity) count
line_of (TooLong kind) names = bytes_limit_line (measured kind)
