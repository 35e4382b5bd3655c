-- What a run of `generate` does and leaves. (This project's rules.)
use Rattle.std.specs.Prelude.{◌≡◌, ◌≢◌, ◌≤◌, ◌⊎◌, ℕ, List, Option, Some, None, Ok, Err, IfSome, IsSomeAnd, option_and_then}
use Rattle.cov_model.specs.believed.Sound.{ModelView}
use Rattle.definitions.specs.believed.RowReading.{RowReading}
use Rattle.outside_io.specs.believed.Files.{Files}
use Rattle.pict_cli.specs.believed.Runs.{CoversOrRefutes, HasModel}
use Rattle.suite_forms.specs.believed.Suites.{suite_text}
use Rattle.jeldroft_args.specs.declared.generate.Generate.{Generate}
use Rattle.jeldroft_files.specs.believed.Failures.{status_of}
use Rattle.jeldroft_files.specs.believed.Models.{opts_of}
use Rattle.jeldroft_files.specs.believed.Runs.{IsUntouched, IsWritten, KeepsFile, Moment}
use Rattle.jeldroft_files.specs.declared.failure.Cause.{Cause}
use Rattle.jeldroft_generate.specs.believed.Asked.{AreRows, IsTable, form_of, proof_format, proof_name}
use Rattle.jeldroft_generate.specs.believed.Due.{AreHeld, CallsFor, Held, IsProof, Start, reading_of}

-- the table and the proof don't go to one file
abbrev pub AreApart : Option (List ℕ) → Option (List ℕ) → Type 0
AreApart proof output = (name : List ℕ) → proof ≡ Some name → output ≢ Some name

-- ---- what is promised of the table

-- what the folder tells of the proof file, where one is asked for
abbrev pub told_proof : Generate → Files → Option (Option (List ℕ))
told_proof args files = option_and_then files (proof_name args)

-- the table of a suite was written, to the output file or to standard output
pub record WritesSuite (args : Generate) (m : ModelView) (seeds : List (ℕ × List (Option ℕ))) (before after : Moment) : Type 0 where
  pub rows : List (List (Option ℕ))
  -- they are what grows from the seeds with these preferences, as in a run of `pict`; or, where fewer are asked for, fewer
  -- in place of these
  pub are : AreRows args m seeds rows
  pub written : IsWritten args.output (suite_text (form_of args.format) m rows) before after
  -- every row is valid, and every demanded tuple is served by one of them, or no row serves it, and then the proof lists
  -- it with a tree that refutes it
  pub covers : CoversOrRefutes m (proof_format args) (told_proof args after.folder.files) rows

-- the model file spells a model, the seeds have a reading, and the table of a suite of these was written. Premises: the
-- folder tells what the files held that are read, and table and proof go to two files
abbrev pub Covers : Generate → Moment → Moment → Type 0
Covers args before after = (held : Held) → AreHeld args before.folder.files held → AreApart (proof_name args) args.output
    → HasModel (opts_of args.model args.strength) held.model (λ m notes. (reading : RowReading) × (reading_of args m held.seeds ≡ Ok reading) × WritesSuite args m reading.rows before after)

-- ---- what a run does

-- the table of a suite was written
pub record WritesTable (args : Generate) (start : Start) (before after : Moment) : Type 0 where
  pub table : List ℕ
  pub is : IsTable args start.model start.seeds table
  pub written : IsWritten args.output table before after

-- the proof file holds what it held, or the whole proof
abbrev pub KeepsProof : Generate → Start → Moment → Moment → Type 0
KeepsProof args start before after =
    IfSome (proof_name args) (λ name. IfSome (after.folder.files name) (λ held. (before.folder.files name ≡ Some held) ⊎ IsSomeAnd held (IsProof args start)))

-- it holds the proof
abbrev pub HoldsProof : Generate → Start → Moment → Type 0
HoldsProof args start after = IfSome (proof_name args) (λ name. IfSome (after.folder.files name) (λ held. IsSomeAnd held (IsProof args start)))

-- what a run does whose files hold this
pub record Generates (args : Generate) (held : Held) (before after : Moment) (status : ℕ) : Type 0 where
  -- 0: the table of the suite was written that the files call for, and before it its proof, where one is asked for
  pub done : status ≡ 0 → (start : Start) × CallsFor args held (Ok start) × WritesTable args start before after
      × (AreApart (proof_name args) args.output → HoldsProof args start after)
  -- 2: they call for none
  pub refused : status ≡ 2 → (cause : Cause) × CallsFor args held (Err cause)
  -- and what is called for comes, unless memory or a device fails
  pub suite_comes : (start : Start) → CallsFor args held (Ok start) → (status ≡ 0) ⊎ (status ≡ 3)
  pub refusal_comes : (cause : Cause) → CallsFor args held (Err cause) → (status ≡ status_of cause) ⊎ (status ≡ 3)
  -- whatever failed, the proof file holds what it held, or the whole proof of the suite that they call for
  pub proof_kept : (start : Start) → CallsFor args held (Ok start) → AreApart (proof_name args) args.output → KeepsProof args start before after

-- what a run leaves as it was, whatever is told
pub record Leaves (args : Generate) (before after : Moment) (status : ℕ) : Type 0 where
  pub known : status ≤ 3
  -- no name changes but those of the output file and the proof file, and the output file with status 0 alone
  pub others : (name : List ℕ) → args.output ≢ Some name → proof_name args ≢ Some name → after.folder.files name ≡ before.folder.files name
  pub kept : status ≢ 0 → AreApart (proof_name args) args.output → IfSome args.output (λ name. KeepsFile name before.folder after.folder)
  -- standard output gets nothing where there is an output file, and nothing is written where the files are refused
  pub unprinted : args.output ≢ None → after.out ≡ before.out
  pub refused : status ≡ 2 → IsUntouched before after
