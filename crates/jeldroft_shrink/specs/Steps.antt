-- What the steps of `shrink` say of each other. (This project's rules.)
use Rattle.std.specs.Prelude.{◌≡◌, ◌⊎◌, ℕ, List, length, Option, Some, Result, Ok, Err}
use Rattle.cov_model.specs.believed.Sound.{ModelView}
use Rattle.command_line.specs.believed.Stops.{stop_of_plan}
use Rattle.jeldroft_args.specs.declared.shrink.Shrink.{Shrink}
use Rattle.row_forms.specs.declared.row_form.RowForm.{RowForm}
use Rattle.shorter_suites.specs.believed.Bounds.{least_needed}
use Rattle.shorter_suites.specs.believed.Laws.{rows_of}
use Rattle.shorter_suites.specs.believed.Shrinking.{IsShrunk}
use Rattle.suite_forms.specs.believed.Suites.{suite_text}
use Rattle.tuple_index.specs.believed.PlanFault.{limit_passed}
use Rattle.tuple_index.specs.declared.fault.PlanFault.{PlanFault}
use Rattle.jeldroft_shrink.specs.declared.answer.Table.{Table}
use Rattle.jeldroft_shrink.specs.declared.cause.ShrinkCause.{ShrinkCause}
use Rattle.jeldroft_shrink.specs.declared.cause.ShrinkFailure.{ShrinkFailure}
use Rattle.jeldroft_shrink.specs.believed.Causes.{status_of}
use Rattle.jeldroft_shrink.specs.believed.Reading.{Lines, stops_by}
use Rattle.jeldroft_shrink.specs.believed.Runs.{HaveRows, HeldFiles, Spells, form_of}

-- a cause is that of a reading, unless memory or the folder failed
abbrev pub IsCauseOf : {A : Type 0} → Result A ShrinkCause → ShrinkCause → Type 0
IsCauseOf reading cause = (status_of cause ≡ 3) ⊎ (reading ≡ Err cause)

-- a step gives what a reading does, seen so, or fails by its cause, unless memory or the folder failed
abbrev pub Gives : {A B : Type 0} → (B → A) → Result A ShrinkCause → Result B ShrinkFailure → Type 0
Gives view reading (Ok given) = reading ≡ Ok (view given)
Gives view reading (Err failure) = IsCauseOf reading failure.cause

-- a cause is that of the limit that a model's demand passes, unless memory failed
abbrev pub IsLimitOf : ModelView → ShrinkCause → Type 0
IsLimitOf m cause = (status_of cause ≡ 3) ⊎ ((fault : PlanFault) × (limit_passed m ≡ Some fault) × (cause ≡ stops_by (stop_of_plan fault)))

-- a table is the text of rows that are a shorter suite, and its numbers are theirs
pub record IsTableOf (form : RowForm) (m : ModelView) (given seeds : Lines) (table : Table) : Type 0 where
  pub rows : List (List (Option ℕ))
  pub shrunk : IsShrunk m (rows_of given) (rows_of seeds) rows
  pub text : table.text.items ≡ suite_text form m rows
  pub tests : table.numbers.tests ≡ length rows
  pub were : table.numbers.given ≡ length given
  pub least : table.numbers.least ≡ least_needed m (rows_of given)

-- a table is one of the rows that the files hold of a model
pub record HasTable (args : Shrink) (held : HeldFiles) (form : RowForm) (m : ModelView) (table : Table) : Type 0 where
  pub given : Lines
  pub seeds : Lines
  pub have : HaveRows args held m given seeds
  pub is : IsTableOf form m given seeds table

-- a table is one of the rows that the files hold
pub record IsAnswered (args : Shrink) (held : HeldFiles) (table : Table) : Type 0 where
  pub form : RowForm
  pub formed : form_of args.format ≡ Some form
  pub m : ModelView
  pub spelled : Spells args held m
  pub has : HasTable args held form m table

-- an answer, as the text or the status of the cause for which there is none
abbrev pub answer_seen : Result Table ShrinkFailure → Result (List ℕ) ℕ
answer_seen (Ok table) = Ok table.text.items
answer_seen (Err failure) = Err (status_of failure.cause)

-- the status of an end
abbrev pub end_status : {Done : Type 0} → Result Done ShrinkFailure → ℕ
end_status (Ok done) = 0
end_status (Err failure) = status_of failure.cause
