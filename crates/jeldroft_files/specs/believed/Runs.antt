-- How a command that writes one text ends: with the text that its files call for, or by the cause for which they call
-- for none. (This project's rule.)
use Rattle.std.specs.Prelude.{◌≡◌, ◌≢◌, ◌≤◌, ◌⊎◌, ℕ, true, List, Option, Some, None, Result, Ok, Err, IfSome}
use Rattle.outside_io.specs.declared.answers.WriteAnswer.TheVariants.{Done, Failed}
use Rattle.outside_io.specs.believed.Puts.{Puts}
use Rattle.outside_io.specs.believed.Seen.{FolderSeen, SinkSeen, KeepsFiles}

-- the folder and standard output at one moment
pub record Moment : Type 0 where
  pub folder : FolderSeen
  pub out : SinkSeen

abbrev pub moment : FolderSeen → SinkSeen → Moment
moment folder out = record { folder = folder; out = out }

-- a text went to standard output: whole, or up to where the reader of the bytes went away
abbrev pub IsPrinted : List ℕ → SinkSeen → SinkSeen → Type 0
IsPrinted text before after = Puts Done before after text ⊎ ((after.gone ≡ true) × Puts Failed before after text)

-- a text went where the output goes: to the file of this name, which holds it now, or else to standard output
abbrev pub IsWritten : Option (List ℕ) → List ℕ → Moment → Moment → Type 0
IsWritten (Some name) text before after = (after.out ≡ before.out) × IfSome (after.folder.files name) (λ held. held ≡ Some text)
IsWritten None text before after = IsPrinted text before.out after.out

-- a file that could not be written holds what it held
abbrev pub KeepsFile : List ℕ → FolderSeen → FolderSeen → Type 0
KeepsFile name before after = IfSome (after.files name) (λ held. before.files name ≡ Some held)

-- every name but this one, if there is one, keeps what it holds, and stays told or untold
abbrev pub KeepsOthers : Option (List ℕ) → FolderSeen → FolderSeen → Type 0
KeepsOthers written before after = (name : List ℕ) → written ≢ Some name → after.files name ≡ before.files name

-- ---- what the files call for

-- standard output got nothing, and no file changed
pub record IsUntouched (before after : Moment) : Type 0 where
  pub out : after.out ≡ before.out
  pub files : KeepsFiles before.folder after.folder

-- what a command leaves as it was, whatever is told
pub record Leaves (output : Option (List ℕ)) (before after : Moment) (status : ℕ) : Type 0 where
  pub known : status ≤ 3
  -- no name changes but that of the output file, and this one with status 0 alone
  pub others : KeepsOthers output before.folder after.folder
  pub kept : status ≢ 0 → IfSome output (λ name. KeepsFile name before.folder after.folder)
  -- standard output gets nothing where there is an output file, and where the files are refused
  pub unprinted : output ≢ None → after.out ≡ before.out
  pub refused : status ≡ 2 → IsUntouched before after

-- what a command does, where `Due` tells which text, or which cause for none, the files call for, and causes have these
-- statuses
pub record RunsAs {Cause : Type 0} (status_of : Cause → ℕ) (Due : Result (List ℕ) Cause → Type 0) (output : Option (List ℕ)) (before after : Moment) (status : ℕ) : Type 0 where
  -- 0: it wrote the text that is called for
  pub done : status ≡ 0 → (text : List ℕ) × Due (Ok text) × IsWritten output text before after
  -- 2: none is called for
  pub refused : status ≡ 2 → (cause : Cause) × Due (Err cause)
  -- and what is called for comes, unless memory or a device fails
  pub text_comes : (text : List ℕ) → Due (Ok text) → (status ≡ 0) ⊎ (status ≡ 3)
  pub refusal_comes : (cause : Cause) → Due (Err cause) → (status ≡ status_of cause) ⊎ (status ≡ 3)
