-- What a table's tests call for once they are read.
use Rattle.std.proofs.Common.{◌≡◌, ℕ, Bool, List, map, Option, None, Some, Result, Ok, Err, inl, inr, ap, sym, ◌∙◌}
use Rattle.std.specs.Prelude.{IfOk, OnOk, option_map}
use Rattle.std.proofs.lemmas.Option.{none-some, same_Some}
use Rattle.cov_model.specs.believed.Sound.{ModelView}
use Rattle.definitions.specs.declared.effort.Effort.{Effort}
use Rattle.definitions.specs.believed.Figures.{Figures, figures}
use Rattle.definitions.specs.believed.Search.{first_measured_over}
use Rattle.row_text.specs.RowFiles.{suite_seen}
use Rattle.row_text.specs.declared.row_file.RowFile.{RowFile}
use Rattle.row_text.proofs.SeenRows.{suite_rows}
use Rattle.tuple_index.specs.believed.PlanFault.{limit_passed}
use Rattle.command_line.specs.believed.Stops.{stop_of_plan}
use Rattle.command_line.specs.declared.stop.Stop.{Stop}
use Rattle.jeldroft_files.specs.declared.failure.Cause.{Cause}
use Rattle.jeldroft_files.specs.declared.failure.Cause.TheVariants as causes
use Rattle.jeldroft_inputs.specs.Inputs.{EndsBy, HoldsTests}
use Rattle.jeldroft_inputs.specs.believed.Inputs.{and_then, tests_of, unless}
use Rattle.jeldroft_measure.specs.Due.{IsSpent}
use Rattle.jeldroft_measure.specs.believed.Due.{measured, spent_at}

pub if_ok_and : {A E : Type 0} {P R : A → Type 0} {Q : Type 0} (result : Result A E) → ((value : A) → P value → Q → R value) → IfOk result P → OnOk result Q → IfOk result R
if_ok_and (Ok value) then holds and = then value holds and
if_ok_and (Err fault) then holds and = tt

unless_stopped : {A : Type 0} (due : Option Stop) (answer : Result A Cause) (cause : Cause) → option_map causes.Stop due ≡ Some cause → unless due answer ≡ Err cause
unless_stopped None answer cause is = absurd (none-some cause is)
unless_stopped (Some stop) answer cause is = ap Err (same_Some (causes.Stop stop) cause is)

module _ (effort : Effort) (m : ModelView) (comma : Bool) (table : Option (List ℕ)) (within : limit_passed m ≡ None) (file : RowFile) (tests : HoldsTests m comma table file) where
  behind : measured effort m comma table ≡ unless (spent_at effort (first_measured_over m effort)) (Ok (figures m (suite_seen file)))
  behind =
      ap (λ limit. unless (option_map stop_of_plan limit) (and_then (tests_of m comma table) (λ reading.
      unless (spent_at effort (first_measured_over m effort)) (Ok (figures m (map (λ row. row.1) reading.rows)))))) within
      ∙ ap (λ given. and_then given (λ reading. unless (spent_at effort (first_measured_over m effort)) (Ok (figures m (map (λ row. row.1) reading.rows))))) tests.read
      ∙ ap (λ rows. unless (spent_at effort (first_measured_over m effort)) (Ok (figures m rows))) (ap (map (λ row. row.1)) (sym tests.holds.rows) ∙ suite_rows file.rows)

  pub measured_is : (given : Figures) → given ≡ figures m (suite_seen file) → spent_at effort (first_measured_over m effort) ≡ None → measured effort m comma table ≡ Ok given
  measured_is given is none = behind ∙ ap (λ due. unless due (Ok (figures m (suite_seen file)))) none ∙ ap Ok (sym is)

  pub measured_ends : (cause : Cause) → EndsBy (IsSpent effort (first_measured_over m effort)) cause → EndsBy (λ other. measured effort m comma table ≡ Err other) cause
  measured_ends cause ends = elim ends [
    | inl device ↦ inl device
    | inr is ↦ inr (behind ∙ unless_stopped (spent_at effort (first_measured_over m effort)) (Ok (figures m (suite_seen file))) cause is)
  ]
