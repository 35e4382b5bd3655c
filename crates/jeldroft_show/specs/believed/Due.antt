-- Which text the files of `show` call for, or which cause for none. (The causes and their order are this project's rules.)
use Rattle.std.specs.Prelude.{◌≡◌, ℕ, Bool, true, false, List, length, map, Option, Some, None, Result, Ok, Err, IfSome, codes, is_some, nat_lt, option_map, if◌then◌else◌}
use Rattle.outside_io.specs.believed.Files.{Files}
use Rattle.cov_model.specs.believed.Sound.{ModelView}
use Rattle.definitions.specs.believed.Limits.{ProofFile, most_bytes}
use Rattle.definitions.specs.believed.ProofText.{Omission, omissions_of}
use Rattle.definitions.specs.believed.Verdict.{verdict}
use Rattle.tuple_index.specs.believed.PlanFault.{limit_passed}
use Rattle.proof_check.specs.believed.Checks.{verdict_given}
use Rattle.command_line.specs.believed.Stops.{stop_of_plan}
use Rattle.command_line.specs.declared.files.FileKind.TheVariants as kinds
use Rattle.command_line.specs.declared.stop.Stop.TheVariants.{CannotRead, TooLong}
use Rattle.row_forms.specs.declared.row_form.RowForm.{RowForm}
use Rattle.row_forms.specs.declared.row_form.RowForm.TheVariants as forms
use Rattle.suite_forms.specs.believed.Suites.{suite_text}
use Rattle.jeldroft_args.specs.declared.format.Format.{Format}
use Rattle.jeldroft_args.specs.declared.format.Format.TheVariants as formats
use Rattle.jeldroft_args.specs.declared.show.Show.{Show}
use Rattle.jeldroft_files.specs.believed.Models.{opts_of}
use Rattle.jeldroft_files.specs.believed.Tables.{is_comma}
use Rattle.jeldroft_files.specs.declared.failure.Cause.{Cause}
use Rattle.jeldroft_files.specs.declared.failure.Cause.TheVariants as causes
use Rattle.jeldroft_inputs.specs.believed.Inputs.{GivesModel, and_then, tests_of, unless}
use Rattle.proof_check.specs.declared.verdict.Verdict.{Verdict}
use Rattle.jeldroft_show.specs.believed.Pages.{suite_page}
use Rattle.jeldroft_show.specs.believed.Shows.{Shown}
use Rattle.jeldroft_show.specs.believed.Words.{is_accepted, omissions_told, suite_words}

-- what the names of the files hold: a file, or none
pub record HeldFiles : Type 0 where
  pub model : Option (List ℕ)
  pub table : Option (List ℕ)
  pub proof : Option (List ℕ)

-- the folder tells what the names of the table and of the proof hold
pub record HoldsSuite (files : Files) (args : Show) (held : HeldFiles) : Type 0 where
  pub table : files args.table ≡ Some held.table
  pub proof : IfSome args.proof (λ name. files name ≡ Some held.proof)

-- and what that of the model file holds
pub record Holds (files : Files) (args : Show) (held : HeldFiles) : Type 0 where
  pub model : files args.model.name ≡ Some held.model
  pub suite : HoldsSuite files args held

-- the form of a table; words and pages are none
abbrev pub form_of : Format → Option RowForm
form_of formats.Tsv = Some forms.Tsv
form_of formats.Csv = Some forms.Csv
form_of formats.Json = Some forms.Json
form_of formats.Markdown = Some forms.Markdown
form_of formats.Text = None
form_of formats.Html = None

-- whether a page is asked for
abbrev pub is_page : Format → Bool
is_page formats.Html = true
is_page formats.Tsv = false
is_page formats.Csv = false
is_page formats.Json = false
is_page formats.Markdown = false
is_page formats.Text = false

-- the rows of the table in a form; a row needs no verdict
abbrev pub rows_shown : RowForm → Show → ModelView → Option (List ℕ) → Result Shown Cause
rows_shown form args m table =
    and_then (tests_of m (is_comma args.delimiter args.table) table) (λ reading.
    Ok (record { text = suite_text form m (map (λ row. row.1) reading.rows); accepted = true }))

-- the bytes of a proof, which has no omissions where none is named
abbrev pub no_omissions : List ℕ
no_omissions = codes "pict-proof 1\n"

abbrev pub proof_in : Option (List ℕ) → Result (List ℕ) Cause
proof_in None = Err (causes.Stop (CannotRead kinds.Proof))
proof_in (Some bytes) = if nat_lt (most_bytes ProofFile) (length bytes) then Err (causes.Stop (TooLong kinds.Proof)) else Ok bytes

abbrev pub proof_of : Option (List ℕ) → Option (List ℕ) → Result (List ℕ) Cause
proof_of None held = Ok no_omissions
proof_of (Some name) held = proof_in held

-- the words on a suite with this verdict, or its page
abbrev pub text_shown : Show → ModelView → List (List (Option ℕ)) → List Omission → Verdict → List ℕ
text_shown args m rows omissions given =
    if is_page args.format
    then suite_page args.model.name m rows (is_some args.proof) omissions given
    else suite_words m rows (is_some args.proof) omissions given

-- the words or the page on rows, each with its line, and on a proof, which may not be named: they say what the checker
-- says, and the suite is accepted where the checker accepts it
abbrev pub shown_words : Show → ModelView → List (ℕ × List (Option ℕ)) → List (List (Option ℕ)) → List ℕ → Shown
shown_words args m lines rows bytes =
    let given = verdict_given (verdict m lines bytes) in
    record { text = text_shown args m rows (omissions_told given (omissions_of m bytes)) given; accepted = is_accepted given }

-- the suite of the table in words, or its page
abbrev pub words_shown : Show → ModelView → HeldFiles → Result Shown Cause
words_shown args m held =
    unless (option_map stop_of_plan (limit_passed m)) (and_then (tests_of m (is_comma args.delimiter args.table) held.table) (λ reading.
    and_then (proof_of args.proof held.proof) (λ bytes. Ok (shown_words args m reading.rows (map (λ row. row.1) reading.rows) bytes))))

-- what is shown in a form, or else in words or as a page
abbrev pub shown_due : Option RowForm → Show → ModelView → HeldFiles → Result Shown Cause
shown_due (Some form) args m held = rows_shown form args m held.table
shown_due None args m held = words_shown args m held

-- the files call for this text or cause
pub record Due (form : Option RowForm) (args : Show) (held : HeldFiles) (due : Result Shown Cause) : Type 0 where
  pub given : Result ModelView Cause
  pub gives : GivesModel (opts_of args.model args.strength) held.model given
  pub is : due ≡ and_then given (λ m. shown_due form args m held)
