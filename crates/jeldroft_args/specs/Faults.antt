-- Why words give no command.
use Rattle.std.specs.Prelude.{◌≡◌, ◌≢◌, ◌⊎◌, ⊤, not, Bool, true, false, List, Option, None}
use Rattle.std.specs.List.{list_any}
use Rattle.clap.specs.Walk.{is_empty}
use Rattle.clap.specs.Words.{Kinds, Text, fault_of}
use Rattle.clap.specs.declared.error.kind.ErrorKind.{ErrorKind}
use Rattle.clap.specs.declared.error.kind.ErrorKind.TheVariants.{DisplayHelp, DisplayVersion}
use Rattle.clap.specs.declared.error.kind.ErrorKind.TheVariants as kinds
use Rattle.jeldroft_args.specs.believed.Programs.{program_of}
use Rattle.jeldroft_args.specs.believed.Settings.{settings_of}
use Rattle.jeldroft_args.specs.declared.args_fault.ArgsFault.{ArgsFault}
use Rattle.jeldroft_args.specs.declared.args_fault.ArgsFault.TheVariants.{Shown, Refused}
use Rattle.jeldroft_args.specs.declared.args_fault.ArgsFault.TheVariants.{OutOfMemory}
use Rattle.jeldroft_args.specs.declared.command_name.CommandName.{CommandName}

-- help or the version is asked for, by clap's definitions
abbrev pub is_request : ErrorKind → Bool
is_request DisplayHelp = true
is_request DisplayVersion = true
is_request _ = false

abbrev pub is_mistake : ErrorKind → Bool
is_mistake kind = not (is_request kind)

-- the kinds of fault that clap's definitions find in the words
abbrev pub kinds_of : List CommandName → List Text → Kinds
kinds_of commands words = fault_of (program_of commands) words

-- a text is shown where it is asked for; words are refused where clap's definitions find a mistake,
-- or find none and the words ask for nothing; in both cases there is no command
abbrev pub HasCause : List CommandName → List Text → ArgsFault → Type 0
HasCause commands words (Shown text) =
    (list_any is_request (kinds_of commands words) ≡ true) × (settings_of commands words ≡ None)
HasCause commands words (Refused text) = ((list_any is_mistake (kinds_of commands words) ≡ true)
    ⊎ (is_empty (kinds_of commands words) ≡ true)) × (settings_of commands words ≡ None)
HasCause commands words OutOfMemory = ⊤

-- an option that is none, where words are refused
abbrev pub HasNone : {X : Type 0} → Option X → ArgsFault → Type 0
HasNone option (Shown text) = ⊥
HasNone option (Refused text) = option ≡ None
HasNone option OutOfMemory = ⊤

-- what an error of this kind comes to
abbrev pub FitsKind : ErrorKind → ArgsFault → Type 0
FitsKind kind (Shown text) = is_request kind ≡ true
FitsKind kind (Refused text) = (is_mistake kind ≡ true) × (kind ≢ kinds.OutOfMemory)
FitsKind kind OutOfMemory = ⊤
