-- What `shrink` is due to write, or why it writes nothing, by the bytes of its files. (This project's rule.)
use Rattle.std.specs.Prelude.{◌≡◌, ℕ, List, Option, Some, None, Result, Ok, Err, IfSome}
use Rattle.outside_io.specs.believed.Files.{Files}
use Rattle.cov_model.specs.believed.Sound.{ModelView}
use Rattle.command_line.specs.believed.Loading.{IsLoaded, StopsReading}
use Rattle.command_line.specs.believed.Stops.{stop_of_plan}
use Rattle.command_line.specs.declared.files.FileKind.TheVariants as kinds
use Rattle.command_line.specs.declared.stop.Stop.{Stop}
use Rattle.command_line.specs.declared.stop.Stop.TheVariants.{CannotRead}
use Rattle.jeldroft_args.specs.declared.format.Format.{Format}
use Rattle.jeldroft_args.specs.declared.format.Format.TheVariants as formats
use Rattle.jeldroft_args.specs.declared.shrink.Shrink.{Shrink}
use Rattle.jeldroft_files.specs.believed.Failures.{status_of_stop}
use Rattle.jeldroft_files.specs.believed.Models.{opts_of}
use Rattle.jeldroft_files.specs.believed.Runs.{IsWritten, Moment}
use Rattle.jeldroft_files.specs.believed.Tables.{is_comma}
use Rattle.model_lex.specs.declared.note.Note.{Note}
use Rattle.row_forms.specs.declared.row_form.RowForm.{RowForm}
use Rattle.row_forms.specs.declared.row_form.RowForm.TheVariants as forms
use Rattle.suite_forms.specs.believed.Suites.{suite_text}
use Rattle.tuple_index.specs.believed.PlanFault.{limit_passed}
use Rattle.tuple_index.specs.declared.fault.PlanFault.{PlanFault}
use Rattle.jeldroft_shrink.specs.declared.cause.ShrinkCause.{ShrinkCause}
use Rattle.jeldroft_shrink.specs.declared.cause.ShrinkCause.TheVariants.{NoTable}
use Rattle.jeldroft_shrink.specs.believed.Reading.{Lines, given_in, seeds_in, stops_by}
use Rattle.jeldroft_shrink.specs.believed.Shorter.{IsShorterTable, IsTextOf}

-- what the names of the files that are read hold: a file, or none
pub record HeldFiles : Type 0 where
  pub model : Option (List ℕ)
  pub table : Option (List ℕ)
  pub seeds : Option (List ℕ)

-- the folder tells what these names hold
pub record Holds (files : Files) (args : Shrink) (held : HeldFiles) : Type 0 where
  pub model : files args.model.name ≡ Some held.model
  pub table : files args.table ≡ Some held.table
  pub seeds : IfSome args.seeds (λ name. files name ≡ Some held.seeds)

-- the form of the table; words and pages are none
abbrev pub form_of : Format → Option RowForm
form_of formats.Tsv = Some forms.Tsv
form_of formats.Csv = Some forms.Csv
form_of formats.Json = Some forms.Json
form_of formats.Markdown = Some forms.Markdown
form_of formats.Text = None
form_of formats.Html = None

-- the model file spells this model
abbrev pub Spells : Shrink → HeldFiles → ModelView → Type 0
Spells args held m = (notes : List Note) × IsLoaded (opts_of args.model args.strength) held.model m notes

-- the given rows, and the seed rows
abbrev pub given_of : Shrink → HeldFiles → ModelView → Result Lines ShrinkCause
given_of args held m = given_in m (is_comma args.delimiter args.table) held.table

abbrev pub seeds_of : Shrink → HeldFiles → ModelView → Result Lines ShrinkCause
seeds_of args held m = seeds_in m args.delimiter args.seeds held.seeds

-- the demand of a model passes no limit, and these are the rows that the files hold
pub record HaveRows (args : Shrink) (held : HeldFiles) (m : ModelView) (given seeds : Lines) : Type 0 where
  pub within : limit_passed m ≡ None
  pub tests : given_of args held m ≡ Ok given
  pub partial : seeds_of args held m ≡ Ok seeds

-- why they hold none, the first cause in this order: that of the demand, of the table, and of the file of seed rows
pub data LackRows (args : Shrink) (held : HeldFiles) (m : ModelView) (cause : ShrinkCause) : Type 0 where
  too_large : (fault : PlanFault) → limit_passed m ≡ Some fault → cause ≡ stops_by (stop_of_plan fault) → LackRows args held m cause
  bad_table : limit_passed m ≡ None → given_of args held m ≡ Err cause → LackRows args held m cause
  bad_seeds : (given : Lines) → limit_passed m ≡ None → given_of args held m ≡ Ok given → seeds_of args held m ≡ Err cause
      → LackRows args held m cause

-- a text is the table of rows that are a shorter suite of a model
pub record IsShorterText (args : Shrink) (held : HeldFiles) (form : RowForm) (m : ModelView) (text : List ℕ) : Type 0 where
  pub given : Lines
  pub seeds : Lines
  pub have : HaveRows args held m given seeds
  pub is : IsTextOf form m given seeds text

-- why the files are refused: by the model file, or by its demand or the others
pub data AreRefused (args : Shrink) (held : HeldFiles) (cause : ShrinkCause) : Type 0 where
  no_model : held.model ≡ None → cause ≡ stops_by (CannotRead kinds.Model) → AreRefused args held cause
  bad_model : (stop : Stop) → StopsReading (opts_of args.model args.strength) held.model stop → status_of_stop stop ≡ 2
      → cause ≡ stops_by stop → AreRefused args held cause
  behind : (m : ModelView) → Spells args held m → LackRows args held m cause → AreRefused args held cause

-- which text the files call for in this form, or which cause for none
abbrev pub IsDueIn : Option RowForm → Shrink → HeldFiles → Result (List ℕ) ShrinkCause → Type 0
IsDueIn None args held (Ok text) = ⊥
IsDueIn None args held (Err cause) = cause ≡ NoTable
IsDueIn (Some form) args held (Ok text) = (m : ModelView) × Spells args held m × IsShorterText args held form m text
IsDueIn (Some form) args held (Err cause) = AreRefused args held cause

abbrev pub IsDue : Shrink → HeldFiles → Result (List ℕ) ShrinkCause → Type 0
IsDue args held end = IsDueIn (form_of args.format) args held end

-- the output got the table of a suite that is shorter than that of the files
pub record WritesShorter (args : Shrink) (held : HeldFiles) (before after : Moment) : Type 0 where
  pub form : RowForm
  pub formed : form_of args.format ≡ Some form
  pub m : ModelView
  pub given : Lines
  pub seeds : Lines
  pub spelled : Spells args held m
  pub have : HaveRows args held m given seeds
  pub rows : List (List (Option ℕ))
  pub shorter : IsShorterTable m form given seeds rows
  pub written : IsWritten args.output (suite_text form m rows) before after
