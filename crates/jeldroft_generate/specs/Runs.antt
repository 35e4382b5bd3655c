-- What a run of `generate` does and leaves. (This project's rules.)
use Rattle.std.specs.Prelude.{◌≡◌, ◌≢◌, ◌⊎◌, ℕ, List, Option, Some, None, Result, Ok, Err, IfSome}
use Rattle.jeldroft_args.specs.declared.generate.Generate.{Generate}
use Rattle.jeldroft_args.specs.Ranges as ranges
use Rattle.jeldroft_files.specs.believed.Failures.{status_of}
use Rattle.jeldroft_files.specs.believed.Runs.{IsWritten, KeepsFile, Moment}
use Rattle.jeldroft_files.specs.Runs.{Writes}
use Rattle.jeldroft_files.specs.declared.failure.Failure.{Failure}
use Rattle.jeldroft_generate.specs.declared.made.Made.{Made}
use Rattle.jeldroft_generate.specs.believed.Runs.{AreApart}

-- the settings are in their ranges
pub record AreInRange (args : Generate) : Type 0 where
  pub marks : ranges.AreMarks args.model.marks
  pub strength : ranges.IsStrength args.strength
  pub threads : ranges.AreThreads args.threads

-- ---- how the texts are written

-- a text was to go to the file of this name, if there is one
abbrev pub WritesIf : Option (List ℕ) → List ℕ → Moment → Moment → ℕ → Type 0
WritesIf None text before after status = (status ≡ 0) × (after ≡ before)
WritesIf (Some name) text before after status = Writes text (Some name) before after status

-- a proof was to be written, and behind it a table
pub record WritesBoth (proof output : Option (List ℕ)) (proved table : List ℕ) (before after : Moment) (status : ℕ) : Type 0 where
  pub known : (status ≡ 0) ⊎ (status ≡ 3)
  pub written : status ≡ 0 → IsWritten output table before after
  pub proof_written : status ≡ 0 → AreApart proof output → IfSome proof (λ name. IfSome (after.folder.files name) (λ held. held ≡ Some proved))
  pub kept : status ≢ 0 → AreApart proof output → IfSome output (λ name. KeepsFile name before.folder after.folder)
  pub proof_kept : AreApart proof output → IfSome proof (λ name. IfSome (after.folder.files name) (λ held. (before.folder.files name ≡ Some held) ⊎ (held ≡ Some proved)))
  pub others : (name : List ℕ) → output ≢ Some name → proof ≢ Some name → after.folder.files name ≡ before.folder.files name
  pub unprinted : output ≢ None → after.out ≡ before.out

-- a run that has its answer ends so
abbrev pub Finishes : Result Made Failure → Option (List ℕ) → Option (List ℕ) → Moment → Moment → ℕ → Type 0
Finishes (Ok made) proof output before after status = WritesBoth proof output made.proof.items made.table.items before after status
Finishes (Err failure) proof output before after status = (status ≡ status_of failure.cause) × (after ≡ before)
