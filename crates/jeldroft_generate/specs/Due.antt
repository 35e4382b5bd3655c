-- What the files of `generate` call for: a model and seed tests from which a suite grows, or a cause for which there is
-- none. (The causes and their order are this project's rules.)
use Rattle.std.specs.Prelude.{◌≡◌, ◌⊎◌, None, Result, Ok, Err}
use Rattle.cov_model.specs.believed.Sound.{IsSound}
use Rattle.tuple_index.specs.believed.PlanFault.{limit_passed}
use Rattle.jeldroft_args.specs.declared.generate.Generate.{Generate}
use Rattle.jeldroft_files.specs.believed.Failures.{status_of}
use Rattle.jeldroft_files.specs.declared.failure.Cause.{Cause}
use Rattle.jeldroft_files.specs.declared.failure.Failure.{Failure}
use Rattle.jeldroft_generate.specs.believed.Asked.{IsTable, rows_of}
use Rattle.jeldroft_generate.specs.declared.made.Made.{Made}
use Rattle.jeldroft_generate.specs.believed.Due.{Start, IsProof}
use Rattle.jeldroft_generate.specs.Numbers.{AreNumbersFor}

-- ---- how steps end

-- a step gives what is called for, or ends by the cause that is, or since memory or a device failed
abbrev pub Answers : {A B : Type 0} → (Result B Cause → Type 0) → (A → B → Type 0) → Result A Failure → Type 0
Answers {A} {B} Calls Holds (Ok value) = (given : B) × Calls (Ok given) × Holds value given
Answers {A} {B} Calls Holds (Err failure) = (status_of failure.cause ≡ 3) ⊎ Calls (Err failure.cause)

-- what was made is the table of the suite, and its proof where one is asked for; and of fewer tests their numbers are kept
pub record IsMadeOf (args : Generate) (made : Made) (start : Start) : Type 0 where
  pub sound : IsSound start.model
  pub within : limit_passed start.model ≡ None
  pub table : IsTable args start.model start.seeds made.table.items
  pub proof : IsProof args start made.proof.items
  pub numbers : AreNumbersFor args.shrinking start.model (rows_of args start.model start.seeds) table.rows made.summary.fewer
