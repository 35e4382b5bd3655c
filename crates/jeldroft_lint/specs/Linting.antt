-- What `lint` says of a model file. (This project's rule.)
use Rattle.std.specs.Prelude.{◌≡◌, ℕ, List, Option, Result, Ok, Err}
use Rattle.cov_model.specs.believed.Sound.{ModelView}
use Rattle.jeldroft_args.specs.declared.lint.Lint.{Lint}
use Rattle.jeldroft_files.specs.believed.Failures.{status_of}
use Rattle.jeldroft_files.specs.declared.failure.Failure.{Failure}
use Rattle.jeldroft_lint.specs.declared.remark.Remark.{Remark}
use Rattle.jeldroft_lint.specs.believed.Linting.{HasRemarks, status_with, text_of}
use Rattle.jeldroft_lint.specs.believed.Remarks.{Tells}

-- a text and a status are those of what is told of a model
abbrev pub IsReport : Lint → ModelView → List ℕ → ℕ → Type 0
IsReport args m text status = (told : List Remark) × Tells m args.all told × ((status ≡ status_with told) × (text ≡ text_of args told))

-- and of the model that a file spells
abbrev pub IsAnswer : Lint → Option (List ℕ) → List ℕ → ℕ → Type 0
IsAnswer args held text status = HasRemarks args held (λ told. (status ≡ status_with told) × (text ≡ text_of args told))

-- the status of an end
abbrev pub status_seen : Result ℕ Failure → ℕ
status_seen (Ok status) = status
status_seen (Err failure) = status_of failure.cause
