-- What the settings of `generate` ask for. (PICT's guide; the forms and the budget are this project's rules.)
use Rattle.std.specs.Prelude.{◌≡◌, ◌==◌, ℕ, List, Option, Some, None, option_map, unwrap_or, if◌then◌else◌}
use Rattle.cov_model.specs.believed.Preference.{preference}
use Rattle.cov_model.specs.believed.Sound.{ModelView}
use Rattle.definitions.specs.declared.effort.Effort.{Effort}
use Rattle.definitions.specs.declared.effort.Effort.TheVariants.{Within, Full}
use Rattle.definitions.specs.believed.Growth.{growth}
use Rattle.definitions.specs.believed.Search.{first_over}
use Rattle.refutation.specs.believed.Proofs.{format_of}
use Rattle.refutation.specs.declared.omissions.ProofForm.{ProofForm}
use Rattle.refutation.specs.declared.omissions.ProofForm.TheVariants.{One, Two}
use Rattle.row_forms.specs.declared.row_form.RowForm.{RowForm}
use Rattle.row_forms.specs.declared.row_form.RowForm.TheVariants as forms
use Rattle.shorter_suites.specs.believed.Laws as lines
use Rattle.shorter_suites.specs.believed.Shrinking.{IsShrunk}
use Rattle.suite_forms.specs.believed.Suites.{suite_text}
use Rattle.jeldroft_args.specs.declared.format.Format.{Format}
use Rattle.jeldroft_args.specs.declared.format.Format.TheVariants as formats
use Rattle.jeldroft_args.specs.declared.generate.Generate.{Generate}
use Rattle.jeldroft_args.specs.declared.shrinking.Shrinking.{Shrinking}

-- the form of the table; words and a page are no forms of a table, and tabs part its cells there
abbrev pub form_of : Format → RowForm
form_of formats.Tsv = forms.Tsv
form_of formats.Csv = forms.Csv
form_of formats.Json = forms.Json
form_of formats.Markdown = forms.Markdown
form_of formats.Text = forms.Tsv
form_of formats.Html = forms.Tsv

-- what a question of the search may cost: without a budget whatever it takes
abbrev pub effort_of : Option ℕ → Effort
effort_of None = Full
effort_of (Some budget) = Within budget

-- the form of the proof, by the number that asks for it
abbrev pub proof_form : ℕ → ProofForm
proof_form number = if number == 2 then Two else One

-- the name and the form of the proof file, where one is asked for
abbrev pub proof_name : Generate → Option (List ℕ)
proof_name args = option_map (λ proof. proof.name) args.proof

abbrev pub proof_asked : Generate → Option ProofForm
proof_asked args = option_map (λ proof. proof_form proof.format) args.proof

abbrev pub proof_format : Generate → ℕ
proof_format args = format_of (unwrap_or (proof_asked args) One)

-- the preference orders, and the rows that grow from seeds
abbrev pub orders_of : Generate → ModelView → List (List ℕ)
orders_of args m = preference m args.shuffle

abbrev pub rows_of : Generate → ModelView → List (ℕ × List (Option ℕ)) → List (List (Option ℕ))
rows_of args m seeds = (growth m (orders_of args m) seeds).rows

-- the rows of the table: those that grew; or, where fewer are asked for, at most as many rows that serve what those
-- serve, and in which each seed row is contained that is in those
abbrev pub AreRowsFor : Option Shrinking → ModelView → List (List (Option ℕ)) → List (List (Option ℕ)) → List (List (Option ℕ)) → Type 0
AreRowsFor None m grown seeds rows = rows ≡ grown
AreRowsFor (Some shrinking) m grown seeds rows = IsShrunk m grown seeds rows

abbrev pub AreRows : Generate → ModelView → List (ℕ × List (Option ℕ)) → List (List (Option ℕ)) → Type 0
AreRows args m seeds rows = AreRowsFor args.shrinking m (rows_of args m seeds) (lines.rows_of seeds) rows

-- a text is the table of such rows
pub record IsTable (args : Generate) (m : ModelView) (seeds : List (ℕ × List (Option ℕ))) (text : List ℕ) : Type 0 where
  pub rows : List (List (Option ℕ))
  pub are : AreRows args m seeds rows
  pub is : text ≡ suite_text (form_of args.format) m rows

-- the first question of the growth that costs more than it may
abbrev pub question_over : Generate → ModelView → List (ℕ × List (Option ℕ)) → Option (List (Option ℕ))
question_over args m seeds = first_over m (orders_of args m) (effort_of args.budget) (growth m (orders_of args m) seeds).asked
