-- Which words of a command have a reading, and what they mean. (PICT's guide; which words exclude each
-- other, and which fault comes first, are this project's rules.)
use Rattle.std.specs.Prelude.{ℕ, ◌+◌, Bool, true, false, ◌&&◌, ◌||◌, not, List, [], ◌∷◌, ◌++◌, take, drop, length, filter_map}
use Rattle.std.specs.Prelude.{Option, Some, None, Result, Ok, Err, option_map, ◌==◌, if◌then◌else◌, codes, position}
use Rattle.std.specs.List.{list_any}
use Rattle.std.specs.Option.{option_or, option_map_or}
use Rattle.definitions.specs.believed.Settings.{Setting, Order, Separator, Alias, Prefix, SeedFile, ShuffleValues, CaseCounts, Statistics, Workers}
use Rattle.definitions.specs.believed.Settings.{ProofFile, ProofFormat, MeasureFile, Make, SuspectFile, Settings, setting_of, settings_of, is_named}

-- the settings that only a run that generates has
abbrev pub is_generating : Setting → Bool
is_generating (SeedFile name) = true
is_generating (ShuffleValues seed) = true
is_generating Statistics = true
is_generating (ProofFile name) = true
is_generating (ProofFormat n) = true
is_generating (Make n) = true
is_generating setting = false

abbrev pub is_measuring : Setting → Bool
is_measuring (MeasureFile name) = true
is_measuring setting = false

-- the settings that a made model doesn't go with: seeds and marks
abbrev pub is_of_a_file : Setting → Bool
is_of_a_file (SeedFile name) = true
is_of_a_file (Separator c) = true
is_of_a_file (Alias c) = true
is_of_a_file (Prefix c) = true
is_of_a_file setting = false

-- the first leaves no place for the second
abbrev pub excludes : Setting → Setting → Bool
excludes (MeasureFile name) other = is_generating other
excludes (SuspectFile name) other = is_generating other || is_measuring other
excludes (Make n) other = is_of_a_file other
excludes setting other = false

abbrev pub exclude_each_other : Setting → Setting → Bool
exclude_each_other a b = excludes a b || excludes b a

-- the word is of the kind that sets a mark, even if its value is no mark
abbrev pub is_mark_word : List ℕ → Bool
is_mark_word word = is_named word (codes "/d") || is_named word (codes "/a") || is_named word (codes "/n")

-- two of the three marks are equal
abbrev pub has_equal_marks : Settings → Bool
has_equal_marks s = (s.separator == s.alias) || (s.separator == s.prefix) || (s.alias == s.prefix)

-- what words set, those without a reading aside
abbrev pub set_by : List (List ℕ) → Settings
set_by words = settings_of (filter_map setting_of words)

-- a word between these others has no reading: by itself it has none, or an earlier word and it exclude
-- each other, or it is the last of all words for marks and two of the marks are equal then
abbrev pub is_faulty : List (List ℕ) → List ℕ → List (List ℕ) → Bool
is_faulty before word after =
    option_map_or (λ setting. list_any (exclude_each_other setting) (filter_map setting_of before)) (setting_of word) true
    || (is_mark_word word && not (list_any is_mark_word after) && has_equal_marks (set_by (before ++ word ∷ [])))

-- the number of the first word that has no reading, the words being numbered from n on
abbrev pub first_faulty : ℕ → List (List ℕ) → List (List ℕ) → Option ℕ
first_faulty n before [] = None
first_faulty n before (word ∷ after) = if is_faulty before word after then Some n else first_faulty (n + 1) (before ++ word ∷ []) after

-- the names with which a command begins, and what its other words set
pub record Command : Type 0 where
  pub names : List (List ℕ)
  pub settings : Settings

-- the number of the first of so many names that is missing or empty, the names being numbered from 1
abbrev pub missing_name : ℕ → List (List ℕ) → Option ℕ
missing_name count words =
    option_or (option_map (λ i. i + 1) (position (λ name. length name == 0) (take count words)))
    (if length (take count words) == count then None else Some (length words + 1))

-- the words: so many names, whatever their first character, then options that only set what is allowed
abbrev pub read_command : ℕ → Option ℕ → List (List ℕ) → Result Command ℕ
read_command count None words = Ok (record { names = take count words; settings = set_by (drop count words) })
read_command count (Some index) words = Err index

-- the words of the generator: the name of the model file, then options
abbrev pub read_words : List (List ℕ) → Result Command ℕ
read_words words = read_command 1 (option_or (missing_name 1 words) (first_faulty 2 [] (drop 1 words))) words

-- the options that the checker knows
abbrev pub is_of_checker : Setting → Bool
is_of_checker (Order order) = true
is_of_checker (Separator c) = true
is_of_checker (Alias c) = true
is_of_checker (Prefix c) = true
is_of_checker CaseCounts = true
is_of_checker (Workers n) = true
is_of_checker setting = false

-- for the checker a word for another option has no reading either
abbrev pub is_faulty_for_checker : List (List ℕ) → List ℕ → List (List ℕ) → Bool
is_faulty_for_checker before word after = not (option_map_or is_of_checker (setting_of word) true) || is_faulty before word after

abbrev pub first_faulty_for_checker : ℕ → List (List ℕ) → List (List ℕ) → Option ℕ
first_faulty_for_checker n before [] = None
first_faulty_for_checker n before (word ∷ after) =
    if is_faulty_for_checker before word after then Some n else first_faulty_for_checker (n + 1) (before ++ word ∷ []) after

-- the words of the checker: the names of the model file, the report and the proof file, then options
abbrev pub read_check_words : List (List ℕ) → Result Command ℕ
read_check_words words = read_command 3 (option_or (missing_name 3 words) (first_faulty_for_checker 4 [] (drop 3 words))) words
