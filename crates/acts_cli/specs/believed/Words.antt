-- The words behind the program's name: IN, OUT, then the option `/c`. (This project's rules.)
use Rattle.std.specs.Prelude.{ℕ, ◌+◌, Bool, true, not, List, [], drop, Option, Some, None, Result, Ok, Err, option_map, position, slice_index_or, codes}
use Rattle.std.specs.List.{list_any}
use Rattle.std.specs.Option.{option_or}
use Rattle.value_text.specs.believed.Texts.{is_same_text}
use Rattle.definitions.specs.believed.Words.{missing_name}
use Rattle.command_line.specs.believed.Words.{TellsFault}

-- the names of the file that is read and of the one that is written, and whether letters of either case are one
pub record Asked : Type 0 where
  pub input : List ℕ
  pub output : List ℕ
  pub fold : Bool

-- `/c`, in either case: case counts
abbrev pub is_case_word : List ℕ → Bool
is_case_word word = is_same_text true word (codes "/c")

-- the number, from 1, of the first word behind the names that isn't `/c`
abbrev pub first_other : List (List ℕ) → Option ℕ
first_other words = option_map (λ i. i + 3) (position (λ word. not (is_case_word word)) (drop 2 words))

-- the number of the first word that has no reading: a name that is missing or empty, or such a word
abbrev pub word_fault : List (List ℕ) → Option ℕ
word_fault words = option_or (missing_name 2 words) (first_other words)

abbrev pub asked_unless : Option ℕ → List (List ℕ) → Result Asked ℕ
asked_unless None words = Ok (record {
  input = slice_index_or words 0 [];
  output = slice_index_or words 1 [];
  fold = not (list_any is_case_word (drop 2 words));
})
asked_unless (Some index) words = Err index

-- what words ask for, or the number of the first that has no reading
abbrev pub asked_by : List (List ℕ) → Result Asked ℕ
asked_by words = asked_unless (word_fault words) words

-- words have no reading, and this is how the number of the first that has none is given
abbrev pub IsWordFault : List (List ℕ) → ℕ → Type 0
IsWordFault words index = TellsFault (asked_by words) index
