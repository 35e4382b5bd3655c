-- The words of the checker behind the program's name, and what they ask for. (This project's rules.)
use Rattle.std.specs.Prelude.{ℕ, List, [], Result, slice_index_or}
use Rattle.definitions.specs.believed.Settings.{Settings}
use Rattle.definitions.specs.believed.Words.{read_check_words}
use Rattle.command_line.specs.believed.Stops.{NamesView}
use Rattle.command_line.specs.believed.Words.{TellsFault, settings_in}

-- the names that the first three words give
abbrev pub names_in : List (List ℕ) → NamesView
names_in words = record { model = slice_index_or words 0 []; rows = slice_index_or words 1 []; proof = slice_index_or words 2 [] }

abbrev pub asked_by : List (List ℕ) → Result Settings ℕ
asked_by words = settings_in (read_check_words words)

abbrev pub IsWordFault : List (List ℕ) → ℕ → Type 0
IsWordFault words index = TellsFault (read_check_words words) index
