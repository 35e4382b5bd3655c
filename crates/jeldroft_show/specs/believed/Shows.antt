-- How `show` ends: with the text that its files call for, of a suite that is accepted or of one that isn't, or by the cause
-- for which they call for none. (This project's rule.)
use Rattle.std.specs.Prelude.{◌≡◌, ◌≢◌, ◌≤◌, ◌⊎◌, ℕ, Bool, true, false, List, Option, None, Result, Ok, Err, IfSome}
use Rattle.jeldroft_files.specs.believed.Failures.{status_of}
use Rattle.jeldroft_files.specs.believed.Runs.{IsUntouched, IsWritten, KeepsFile, KeepsOthers, Moment}
use Rattle.jeldroft_files.specs.declared.failure.Cause.{Cause}

-- a text, and whether nothing speaks against the suite that it shows
pub record Shown : Type 0 where
  pub text : List ℕ
  pub accepted : Bool

-- the status with which a text comes
abbrev pub status_with : Bool → ℕ
status_with true = 0
status_with false = 1

-- what a command does, where `Due` tells which text, or which cause for none, its files call for
pub record ShowsAs (Due : Result Shown Cause → Type 0) (output : Option (List ℕ)) (before after : Moment) (status : ℕ) : Type 0 where
  -- 0 and 1: it wrote the text that is called for, and the status tells whether the suite is accepted
  pub done : status ≤ 1 → (shown : Shown) × Due (Ok shown) × (status ≡ status_with shown.accepted) × IsWritten output shown.text before after
  -- 2: none is called for
  pub refused : status ≡ 2 → (cause : Cause) × Due (Err cause)
  -- and what is called for comes, unless memory or a device fails
  pub text_comes : (shown : Shown) → Due (Ok shown) → (status ≡ status_with shown.accepted) ⊎ (status ≡ 3)
  pub refusal_comes : (cause : Cause) → Due (Err cause) → (status ≡ status_of cause) ⊎ (status ≡ 3)

-- what it leaves as it was, whatever is told
pub record LeavesShown (output : Option (List ℕ)) (before after : Moment) (status : ℕ) : Type 0 where
  pub known : status ≤ 3
  -- no name changes but that of the output file, and this one where a text comes
  pub others : KeepsOthers output before.folder after.folder
  pub kept : 2 ≤ status → IfSome output (λ name. KeepsFile name before.folder after.folder)
  -- standard output gets nothing where there is an output file, and where the files are refused
  pub unprinted : output ≢ None → after.out ≡ before.out
  pub refused : status ≡ 2 → IsUntouched before after
