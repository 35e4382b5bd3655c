-- What a run of `pictacts` does with the file that it reads and the one that it writes. (This project's rules.)
use Rattle.std.specs.Prelude.{◌≡◌, ℕ, Bool, ◌<◌, ◌≤◌, List, length, Option, Some, Result, Ok, Err, IfSome, IsSomeAnd}
use Rattle.outside_io.specs.believed.Files.{HoldsOldOrPrefix}
use Rattle.outside_io.specs.believed.Seen.{FolderSeen, SinkSeen}
use Rattle.definitions.specs.believed.Limits.{ModelFile, most_bytes}
use Rattle.acts_front.specs.believed.Translation.{translation}
use Rattle.command_line.specs.believed.Told.{Tells}
use Rattle.acts_cli.specs.believed.Stops.{end_status, end_text}
use Rattle.acts_cli.specs.believed.Words.{Asked}
use Rattle.acts_front.specs.declared.code.ActsCode.{ActsCode}
use Rattle.acts_cli.specs.declared.stop.Stop.{Stop}
use Rattle.acts_cli.specs.declared.stop.Stop.TheVariants.{OutOfMemory, Refused, CannotRead, CannotWrite, TooLong}

-- the bytes are no more than they may be and are translated, and P holds of the translation
pub record IsTranslated (fold : Bool) (P : List ℕ → Type 0) (bytes : List ℕ) : Type 0 where
  pub within : length bytes ≤ most_bytes ModelFile
  pub text : List ℕ
  pub translated : translation fold bytes ≡ Ok text
  pub holds : P text

-- they are more than they may be
abbrev pub IsTooLong : List ℕ → Type 0
IsTooLong bytes = most_bytes ModelFile < length bytes

-- the bytes are no more than they may be, and this is their first refusal
abbrev pub IsRefused : Bool → ℕ × ActsCode → List ℕ → Type 0
IsRefused fold refused bytes = (length bytes ≤ most_bytes ModelFile) × (translation fold bytes ≡ Err refused)

-- how a run may end, where the file that it reads is held or there is none, by what its output's name tells before
-- and after: the translation was written whole, or where the write failed in part; else nothing was written
abbrev pub Ends : Bool → Option (List ℕ) → Option (Option (List ℕ)) → Option (Option (List ℕ)) → Result (Unit {0}) Stop → Type 0
Ends fold held before after (Ok done) = IsSomeAnd held (IsTranslated fold (λ text. IfSome after (λ file. file ≡ Some text)))
Ends fold held before after (Err OutOfMemory) = after ≡ before
Ends fold held before after (Err (Refused line code)) = IsSomeAnd held (IsRefused fold (line, code)) × (after ≡ before)
Ends fold held before after (Err CannotRead) = after ≡ before
Ends fold held before after (Err CannotWrite) =
    IsSomeAnd held (IsTranslated fold (λ text. IfSome after (λ file. HoldsOldOrPrefix before file text)))
Ends fold held before after (Err TooLong) = IsSomeAnd held IsTooLong × (after ≡ before)

-- a run on words that ask for this, by what the folder tells before and after: how it ended, what it told,
-- and its status
pub record IsRun (asked : Asked) (before after : FolderSeen) (told told_after : SinkSeen) (status : ℕ) : Type 0 where
  pub end : Result (Unit {0}) Stop
  pub ends : IfSome (before.files asked.input) (λ held. Ends asked.fold held (before.files asked.output) (after.files asked.output) end)
  pub tells : Tells told told_after (end_text end asked.input asked.output)
  pub ended : status ≡ end_status end
