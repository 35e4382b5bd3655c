-- From clap's answer to what the words ask for.
use Rattle.std.proofs.Common.{◌≡◌, ◌∙◌, ◌⊎◌, ◌||◌, ◌∷◌, Bool, true, false, List, [], Option, Some, None, ap, ap₂, sym, subst, refl, inl, inr, option_map, if◌then◌else◌}
use Rattle.std.specs.Prelude.{unwrap_or}
use Rattle.std.specs.List.{list_any}
use Rattle.std.proofs.Common.{arith}
use Rattle.std.specs.Prelude.{IfErr, IfOk, MatchResult, Ok, Err, Result}
use Rattle.std.proofs.lemmas.Bool.{ne_eqb, and_parts}
use Rattle.clap.specs.Faults.{is_simple_and_free}
use Rattle.clap.specs.Walk.{is_empty}
use Rattle.clap.specs.Words.{App, HasMatchesOf, IsAmong, Kinds, Text, fault_of, subcommand_of, subcommand_rows_of}
use Rattle.clap.specs.declared.error.kind.ErrorKind.{ErrorKind}
use Rattle.clap.specs.declared.error.kind.ErrorKind.TheVariants as kind
use Rattle.clap.specs.declared.parser.matches.ArgMatches.{ArgMatches}
use Rattle.jeldroft_args.proofs.SimpleProgram.{simple_program}
use Rattle.jeldroft_args.specs.Faults.{FitsKind, HasCause, HasNone, is_mistake, is_request}
use Rattle.jeldroft_args.specs.believed.Programs.{program_of}
use Rattle.jeldroft_args.specs.believed.Settings.{asked_in, settings_of}
use Rattle.jeldroft_args.specs.declared.args_fault.ArgsFault.{ArgsFault}
use Rattle.jeldroft_args.specs.declared.args_fault.ArgsFault.TheVariants.{Shown, Refused, OutOfMemory}
use Rattle.jeldroft_args.specs.declared.command.Command.{Command}
use Rattle.jeldroft_args.specs.declared.command_name.CommandName.{CommandName}

-- an option whose parts are told one by one
pub both_parts : {A B C D : Type 0} (f : A → C) (g : A → D) (h : B → C × D) (o : Option A) (s : Option B)
    → option_map f o ≡ option_map (λ b. (h b).0) s → option_map g o ≡ option_map (λ p. p.1) (option_map h s)
    → option_map (λ a. (f a, g a)) o ≡ option_map h s
both_parts f g h None None one two = refl
both_parts f g h None (Some b) one two = cc
both_parts f g h (Some a) None one two = cc
both_parts f g h (Some a) (Some b) one two =
    ap₂ (λ x y. Some (x, y)) (ap (λ o. unwrap_or o (f a)) one) (ap (λ o. unwrap_or o (g a)) two)

pub simple_app : (app : App) (commands : List CommandName) → app ≡ program_of commands → is_simple_and_free app ≡ true
simple_app app commands is = ap is_simple_and_free is ∙ simple_program commands

-- the command that was met
met_in : (app : App) (commands : List CommandName) (words : List Text) (m : ArgMatches) → app ≡ program_of commands
    → HasMatchesOf app words m → subcommand_rows_of m ≡ subcommand_of (program_of commands) words
met_in app commands words m is has = (has (and_parts _ _ (simple_app app commands is)).0).1 ∙ ap (λ a. subcommand_of a words) is

without_fault : (commands : List CommandName) (words : List Text) → fault_of (program_of commands) words ≡ []
    → settings_of commands words ≡ asked_in commands (subcommand_of (program_of commands) words)
without_fault commands words none =
    ap (λ kinds. if is_empty kinds then asked_in commands (subcommand_of (program_of commands) words) else None) none

-- where clap takes the words, they ask for what is asked of the command that was met
pub taken : (app : App) (commands : List CommandName) (words : List Text) (m : ArgMatches) → app ≡ program_of commands
    → HasMatchesOf app words m → fault_of app words ≡ [] → settings_of commands words ≡ asked_in commands (subcommand_rows_of m)
taken app commands words m is has none =
    without_fault commands words (ap (λ a. fault_of a words) (sym is) ∙ none) ∙ ap (asked_in commands) (sym (met_in app commands words m is has))

pub taken_cause : (app : App) (commands : List CommandName) (words : List Text) (m : ArgMatches) (fault : ArgsFault) → app ≡ program_of commands
    → HasMatchesOf app words m → fault_of app words ≡ [] → HasNone (asked_in commands (subcommand_rows_of m)) fault
    → HasCause commands words fault
taken_cause app commands words m (Shown text) is has none bad = absurd bad
taken_cause app commands words m (Refused text) is has none nothing =
    (inr (ap is_empty (ap (λ a. fault_of a words) (sym is) ∙ none)), taken app commands words m is has none ∙ nothing)
taken_cause app commands words m OutOfMemory is has none nothing = tt

-- where it doesn't
any_of : (p : ErrorKind → Bool) (k : ErrorKind) (kinds : Kinds) → IsAmong k kinds → p k ≡ true → list_any p kinds ≡ true
any_of p k [] among is = absurd among
any_of p k (x ∷ xs) (inl here) is = ap (λ b. b || list_any p xs) (ap p (sym here) ∙ is)
any_of p k (x ∷ xs) (inr later) is = ap (λ b. p x || b) (any_of p k xs later is) ∙ or_true (p x)
  where
    or_true : (b : Bool) → (b || true) ≡ true
    or_true true = refl
    or_true false = refl

not_empty : (k : ErrorKind) (kinds : Kinds) → IsAmong k kinds → is_empty kinds ≡ false
not_empty k [] among = absurd among
not_empty k (x ∷ xs) among = ne_eqb _ _ (λ e. omega arith)

with_fault : (commands : List CommandName) (words : List Text) (k : ErrorKind) → IsAmong k (fault_of (program_of commands) words)
    → settings_of commands words ≡ None
with_fault commands words k among =
    ap (λ b. if b then asked_in commands (subcommand_of (program_of commands) words) else None) (not_empty k _ among)

among_cause : (commands : List CommandName) (words : List Text) (k : ErrorKind) (fault : ArgsFault)
    → IsAmong k (fault_of (program_of commands) words) → FitsKind k fault → HasCause commands words fault
among_cause commands words k (Shown text) among fits = (any_of is_request k _ among fits, with_fault commands words k among)
among_cause commands words k (Refused text) among fits = (inl (any_of is_mistake k _ among fits.0), with_fault commands words k among)
among_cause commands words k OutOfMemory among fits = tt

memory_cause : (commands : List CommandName) (words : List Text) (k : ErrorKind) (fault : ArgsFault)
    → k ≡ kind.OutOfMemory → FitsKind k fault → HasCause commands words fault
memory_cause commands words k (Shown text) is fits = let bad : false ≡ true = ap is_request (sym is) ∙ fits in cc
memory_cause commands words k (Refused text) is fits = absurd (fits.1 is)
memory_cause commands words k OutOfMemory is fits = tt

pub refused_cause : (app : App) (commands : List CommandName) (words : List Text) (k : ErrorKind) (fault : ArgsFault) → app ≡ program_of commands
    → (k ≡ kind.OutOfMemory) ⊎ IsAmong k (fault_of app words) → FitsKind k fault → HasCause commands words fault
refused_cause app commands words k fault is (inl memory) fits = memory_cause commands words k fault memory fits
refused_cause app commands words k fault is (inr among) fits =
    among_cause commands words k fault (subst (λ a. IsAmong k (fault_of a words)) is among) fits

pub asked_where_ok : (r : Result Command ArgsFault) (asked settings : Option Command) → settings ≡ asked
    → MatchResult r (λ command. asked ≡ Some command) (HasNone asked) → IfOk r (λ command. settings ≡ Some command)
asked_where_ok (Ok command) asked settings same told = same ∙ told
asked_where_ok (Err fault) asked settings same told = tt

pub cause_where_err : (r : Result Command ArgsFault) (asked : Option Command) (P : ArgsFault → Type 0) → ((fault : ArgsFault) → HasNone asked fault → P fault)
    → MatchResult r (λ command. asked ≡ Some command) (HasNone asked) → IfErr r P
cause_where_err (Ok command) asked P cause told = tt
cause_where_err (Err fault) asked P cause told = cause fault told
