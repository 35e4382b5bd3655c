-- The words behind the name of the program `pictseq`: the name of the file of events, then options. (This
-- project's rules, which are those of the words of `pict`.)
use Rattle.std.specs.Prelude.{ℕ, ◌+◌, true, List, [], drop, fold, filter_map, Option, Some}
use Rattle.std.specs.Prelude.{None, is_none, option_map, Result, Ok, Err, position, slice_index_or, codes, if◌then◌else◌}
use Rattle.std.specs.List.{before_first, after_first}
use Rattle.std.specs.Option.{option_or}
use Rattle.value_text.specs.believed.Numbers.{count_of}
use Rattle.value_text.specs.believed.Texts.{is_same_text}
use Rattle.model_lex.specs.believed.Sections.{has_colon}
use Rattle.definitions.specs.believed.Settings.{file_of, is_colon}
use Rattle.definitions.specs.believed.Words.{missing_name}
use Rattle.command_line.specs.believed.Words.{TellsFault}

-- what one option sets: the length of the sequences, or the report that is checked
pub data Setting : Type 0 where
  Length : ℕ → Setting
  Report : List ℕ → Setting

-- by the option's name before its first colon, in letters of either case, and its value behind it
abbrev pub valued_setting : List ℕ → List ℕ → Option Setting
valued_setting name value =
    if is_same_text true name (codes "/t") then option_map Length (count_of value 2 3)
    else if is_same_text true name (codes "/check") then option_map Report (file_of value)
    else None

abbrev pub setting_of : List ℕ → Option Setting
setting_of word = if has_colon word then valued_setting (before_first is_colon word) (after_first is_colon word) else None

-- what words ask for: the name of the file of events, the length of the sequences, and the name of the report that
-- is checked, in place of one being made
pub record Asked : Type 0 where
  pub file : List ℕ
  pub len : ℕ
  pub report : Option (List ℕ)

-- without an option the length is 2
abbrev pub asked_of : List ℕ → Asked
asked_of file = record { file = file; len = 2; report = None }

-- the last of a repeated option counts
abbrev pub set : Asked → Setting → Asked
set asked (Length len) = record asked { len = len }
set asked (Report name) = record asked { report = Some name }

abbrev pub set_by : List ℕ → List (List ℕ) → Asked
set_by file options = fold set (asked_of file) (filter_map setting_of options)

-- the number of the first word that has no reading, from 1: of the name where it is missing or empty, else of the
-- first option that is none or whose value is out of range
abbrev pub first_faulty : List (List ℕ) → Option ℕ
first_faulty words = option_or (missing_name 1 words) (option_map (λ place. place + 2) (position (λ word. is_none (setting_of word)) (drop 1 words)))

abbrev pub asked_unless : Option ℕ → Asked → Result Asked ℕ
asked_unless None asked = Ok asked
asked_unless (Some index) asked = Err index

-- what words ask for, or the number of the first that has no reading
abbrev pub asked_by : List (List ℕ) → Result Asked ℕ
asked_by words = asked_unless (first_faulty words) (set_by (slice_index_or words 0 []) (drop 1 words))

-- words have no reading, and this is how the number of the first that has none is given
abbrev pub IsWordFault : List (List ℕ) → ℕ → Type 0
IsWordFault words index = TellsFault (asked_by words) index
