-- What `lint` says of a model file. (This project's rule.)
use Rattle.std.specs.Prelude.{◌≡◌, ◌≢◌, ◌≤◌, ℕ, List, [], ◌∷◌, Option}
use Rattle.cov_model.specs.believed.Sound.{ModelView}
use Rattle.command_line.specs.believed.Loading.{IsLoaded}
use Rattle.outside_io.specs.believed.Seen.{SinkSeen}
use Rattle.jeldroft_args.specs.declared.format.FindingFormat.{FindingFormat}
use Rattle.jeldroft_args.specs.declared.format.FindingFormat.TheVariants.{Json, Text}
use Rattle.jeldroft_args.specs.declared.lint.Lint.{Lint}
use Rattle.jeldroft_args.specs.declared.strength.Strength.TheVariants.{Number}
use Rattle.jeldroft_files.specs.believed.Failures.{status_of}
use Rattle.jeldroft_files.specs.believed.Models.{StopsModel, opts_of}
use Rattle.jeldroft_files.specs.believed.Runs.{IsPrinted}
use Rattle.jeldroft_files.specs.declared.failure.Cause.{Cause}
use Rattle.model_findings.specs.believed.Findings.{Fact, facts}
use Rattle.model_lex.specs.declared.note.Note.{Note}
use Rattle.model_lex.specs.declared.options.ModelOpts.{ModelOpts}
use Rattle.jeldroft_lint.specs.declared.remark.Remark.{Remark}
use Rattle.jeldroft_lint.specs.believed.Remarks.{Tells}
use Rattle.jeldroft_lint.specs.believed.Texts.{array_text, lines_text}

-- how the file is read: for tests of single parameters, which every model allows
abbrev pub lint_opts : Lint → ModelOpts
lint_opts args = opts_of args.model (Number 1)

-- the file spells a model whose findings are such
abbrev pub HasFindings : Lint → Option (List ℕ) → (List Fact → Type 0) → Type 0
HasFindings args held P = (m : ModelView) × (notes : List Note) × IsLoaded (lint_opts args) held m notes × P (facts m args.all)

-- the file spells a model of which such remarks are told
abbrev pub HasRemarks : Lint → Option (List ℕ) → (List Remark → Type 0) → Type 0
HasRemarks args held P =
    (m : ModelView) × (notes : List Note) × IsLoaded (lint_opts args) held m notes × ((told : List Remark) × Tells m args.all told × P told)

-- what each status says: nothing is told of the model, and it has no finding; something is told of it; and its file is
-- refused, for no want of memory and no fault of a device
pub record LintsAs (args : Lint) (held : Option (List ℕ)) (status : ℕ) : Type 0 where
  pub clean : status ≡ 0 → HasFindings args held (λ found. found ≡ [])
  pub untold : status ≡ 0 → HasRemarks args held (λ told. told ≡ [])
  pub found : status ≡ 1 → HasRemarks args held (λ told. told ≢ [])
  pub refused : status ≡ 2 → (cause : Cause) × (status_of cause ≡ 2) × StopsModel (lint_opts args) held cause

-- ---- what is printed

-- the text of what is told, in the form that is asked for
abbrev pub text_in : FindingFormat → List ℕ → List Remark → List ℕ
text_in Text file told = lines_text file told
text_in Json file told = array_text file told

abbrev pub text_of : Lint → List Remark → List ℕ
text_of args told = text_in args.format args.model.name told

-- 0 where nothing is told, else 1
abbrev pub status_with : List Remark → ℕ
status_with [] = 0
status_with (remark ∷ told) = 1

-- with status 0 or 1 what is told of the model was printed, and the status goes with it
abbrev pub Prints : Lint → Option (List ℕ) → SinkSeen → SinkSeen → ℕ → Type 0
Prints args held before after status =
    status ≤ 1 → HasRemarks args held (λ told. (status ≡ status_with told) × IsPrinted (text_of args told) before after)
