-- What words ask for is in its ranges.
use Rattle.std.proofs.Common.{◌≡◌, ◌∙◌, ◌≤◌, ◌&&◌, ◌∷◌, ℕ, Bool, true, false, not, List, [], Option, None, Some, refl, sym, ap, subst, if◌then◌else◌, option_map, arith}
use Rattle.std.specs.Prelude.{codes, is_none, unwrap_or}
use Rattle.std.specs.Str.{bytes_eq}
use Rattle.std.proofs.lemmas.Bool.{and_parts, not-true}
use Rattle.std.proofs.lemmas.Option.{none-some, same_Some}
use Rattle.clap.specs.Walk.{is_empty}
use Rattle.clap.specs.Words.{Row, Text, fault_of, subcommand_of}
use Rattle.value_text.specs.believed.Numbers.{count_of}
use Rattle.value_text.proofs.NumberLemmas.{count_within}
use Rattle.jeldroft_args.specs.believed.Names.{overwritten}
use Rattle.jeldroft_args.specs.believed.Programs.{program_of}
use Rattle.jeldroft_args.specs.Ranges.{AreMarks, AreThreads, IsInRange, IsStrength}
use Rattle.jeldroft_args.specs.believed.Readings.{has_equal_marks, is_mark, length_of, mark_of, marks_in, read_or, strength_of, threads_of, value_of}
use Rattle.jeldroft_args.specs.believed.Rules.{excluded_pair, inputs, is_allowed, names_in, outputs, reads_input_twice, unmet_need, unread}
use Rattle.jeldroft_args.specs.believed.Settings.{asked_in, asked_of, command_in, command_named, length_in, settings_of, strength_in, threads_in}
use Rattle.jeldroft_args.specs.declared.argument.Argument.TheVariants as a
use Rattle.jeldroft_args.specs.declared.command.Command.{Command}
use Rattle.jeldroft_args.specs.declared.command_name.CommandName.{CommandName}
use Rattle.jeldroft_args.specs.declared.command_name.CommandName.TheVariants.{Generate, Check, Shrink, Show, Lint, Measure, Suspect, Sequence, Import}
use Rattle.jeldroft_args.specs.declared.strength.Strength.{Strength}
use Rattle.jeldroft_args.specs.declared.strength.Strength.TheVariants.{Number, Max}

-- ---- values

-- a value that is read has what each reading has, and the usual one has
read_has : {X : Type 0} (P : X → Type 0) (read : Text → Option X) (usual : X) → P usual → ((text : Text) (x : X) → read text ≡ Some x → P x)
    → (value : Option Text) → P (read_or read usual value)
read_has P read usual here each None = here
read_has P read usual here each (Some text) = go (read text) refl
  where
    go : (o : Option _) → read text ≡ o → P (unwrap_or o usual)
    go None e = here
    go (Some x) e = each text x e

is_mark_of : (text : Text) (c : ℕ) → mark_of text ≡ Some c → is_mark c ≡ true
is_mark_of [] c h = absurd (none-some c h)
is_mark_of (d ∷ []) c h = decide (is_mark d) refl
  where
    decide : (b : Bool) → is_mark d ≡ b → is_mark c ≡ true
    decide true t = subst (λ k. is_mark k ≡ true) (same_Some d c (sym (ap (λ b. if b then Some d else None) t) ∙ h)) t
    decide false t = absurd (none-some c (sym (ap (λ b. if b then Some d else None) t) ∙ h))
is_mark_of (d ∷ e ∷ rest) c h = absurd (none-some c h)

is_strength_of : (text : Text) (s : Strength) → strength_of text ≡ Some s → IsStrength s
is_strength_of text s h = decide (bytes_eq text (codes "max")) h
  where
    number : (o : Option ℕ) → count_of text 1 256 ≡ o → option_map Number o ≡ Some s → IsStrength s
    number None e k = absurd (none-some s k)
    number (Some n) e k = subst IsStrength (same_Some (Number n) s k) (count_within text 1 256 n e)

    decide : (b : Bool) → (if b then Some Max else option_map Number (count_of text 1 256)) ≡ Some s → IsStrength s
    decide true k = subst IsStrength (same_Some Max s k) tt
    decide false k = number (count_of text 1 256) refl k

-- ---- what rows say

has_marks : (rows : List Row) → has_equal_marks (marks_in rows) ≡ false → AreMarks (marks_in rows)
has_marks rows differ = record {
  separator = read_has (λ c. is_mark c ≡ true) mark_of 44 refl is_mark_of (value_of a.Separator rows);
  alias = read_has (λ c. is_mark c ≡ true) mark_of 124 refl is_mark_of (value_of a.AliasSeparator rows);
  invalid = read_has (λ c. is_mark c ≡ true) mark_of 126 refl is_mark_of (value_of a.InvalidMark rows);
  differ = differ;
}

has_strength : (rows : List Row) → IsStrength (strength_in rows)
has_strength rows = read_has IsStrength strength_of (Number 2) (omega arith, omega arith) is_strength_of (value_of a.Strength rows)

has_threads : (rows : List Row) → AreThreads (threads_in rows)
has_threads rows = read_has AreThreads threads_of 1 (omega arith, omega arith) (λ text. count_within text 1 64) (value_of a.Threads rows)

has_length : (rows : List Row) → (2 ≤ length_in rows) × (length_in rows ≤ 3)
has_length rows = read_has (λ n. (2 ≤ n) × (n ≤ 3)) length_of 2 (omega arith, omega arith) (λ text. count_within text 2 3) (value_of a.SequenceLength rows)

asked_fits : (command : CommandName) (rows : List Row) → has_equal_marks (marks_in rows) ≡ false → IsInRange (asked_of command rows)
asked_fits Generate rows differ = (has_marks rows differ, has_strength rows, has_threads rows)
asked_fits Check rows differ = (has_marks rows differ, has_strength rows, has_threads rows)
asked_fits Shrink rows differ = (has_marks rows differ, has_strength rows)
asked_fits Show rows differ = (has_marks rows differ, has_strength rows, has_threads rows)
asked_fits Lint rows differ = has_marks rows differ
asked_fits Measure rows differ = (has_marks rows differ, has_strength rows, has_threads rows)
asked_fits Suspect rows differ = (has_marks rows differ, has_strength rows)
asked_fits Sequence rows differ = has_length rows
asked_fits Import rows differ = tt

allowed_differ : (command : CommandName) (rows : List Row) → is_allowed command rows ≡ true → has_equal_marks (marks_in rows) ≡ false
allowed_differ command rows h =
    let before = is_none (unread command rows) && is_none (unmet_need command rows) && is_none (excluded_pair command rows) && not (reads_input_twice rows) in
    let first = and_parts (before && not (has_equal_marks (marks_in rows))) (is_none (overwritten (names_in inputs rows) (names_in outputs rows))) h in
    not-true _ (and_parts before (not (has_equal_marks (marks_in rows))) first.0).1

-- ---- what words ask for

command_fits : (command : CommandName) (rows : List Row) (asked : Command) → command_in command rows ≡ Some asked → IsInRange asked
command_fits command rows asked h = decide (is_allowed command rows) refl
  where
    decide : (b : Bool) → is_allowed command rows ≡ b → IsInRange asked
    decide true t = subst IsInRange (same_Some (asked_of command rows) asked (sym (ap (λ b. if b then Some (asked_of command rows) else None) t) ∙ h))
        (asked_fits command rows (allowed_differ command rows t))
    decide false t = absurd (none-some asked (sym (ap (λ b. if b then Some (asked_of command rows) else None) t) ∙ h))

met_fits : (commands : List CommandName) (met : Option (Text × List Row)) (asked : Command) → asked_in commands met ≡ Some asked → IsInRange asked
met_fits commands None asked h = absurd (none-some asked h)
met_fits commands (Some pair) asked h = go (command_named commands pair.0) refl
  where
    go : (o : Option CommandName) → command_named commands pair.0 ≡ o → IsInRange asked
    go None e = let none : None ≡ Some asked = rw e at h in absurd (none-some asked none)
    go (Some command) e = let some : command_in command pair.1 ≡ Some asked = rw e at h in command_fits command pair.1 asked some

pub settings_fit : (commands : List CommandName) (words : List Text) (asked : Command) → settings_of commands words ≡ Some asked → IsInRange asked
settings_fit commands words asked h = decide (is_empty (fault_of (program_of commands) words)) refl
  where
    decide : (b : Bool) → is_empty (fault_of (program_of commands) words) ≡ b → IsInRange asked
    decide true t = met_fits commands (subcommand_of (program_of commands) words) asked
        (sym (ap (λ b. if b then asked_in commands (subcommand_of (program_of commands) words) else None) t) ∙ h)
    decide false t = absurd (none-some asked
        (sym (ap (λ b. if b then asked_in commands (subcommand_of (program_of commands) words) else None) t) ∙ h))
