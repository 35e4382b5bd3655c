-- What a table of results says: which tests ran, and which of them failed. (This project's rules.)
use Rattle.std.specs.Prelude.{ℕ, Bool, true, false, ◌||◌, List, [], ◌∷◌, map, filter, find, position, Option, Some, None, Result, Ok, Err, is_none, option_map, option_and_then, unwrap_or, slice_get, if◌then◌else◌, codes}
use Rattle.value_text.specs.believed.Texts.{is_same_text}
use Rattle.cov_model.specs.believed.Sound.{ModelView}
use Rattle.definitions.specs.believed.RowFile.{cells_of_line, filled_lines, row_of_line}
use Rattle.definitions.specs.believed.RowReading.{Suite, read_rows}
use Rattle.command_line.specs.declared.stop.Stop.{Stop}
use Rattle.command_line.specs.declared.stop.Stop.TheVariants.{BadResult, NoResult}
use Rattle.jeldroft_files.specs.declared.failure.Cause.{Cause}
use Rattle.jeldroft_files.specs.declared.failure.Cause.TheVariants as causes
use Rattle.jeldroft_inputs.specs.believed.Inputs.{and_then, rows_or_cause, unless}
use Rattle.jeldroft_suspect.specs.declared.outcome.Outcome.{Outcome}
use Rattle.jeldroft_suspect.specs.declared.outcome.Outcome.TheVariants.{Passed, Failed, Skipped}

-- ---- words

-- a word in letters of either case
abbrev pub is_word : List ℕ → List ℕ → Bool
is_word known word = is_same_text true known word

-- what became of a test, by its word
abbrev pub outcome_of : List ℕ → Option Outcome
outcome_of word =
    if is_word (codes "pass") word || is_word (codes "passed") word || is_word (codes "ok") word then Some Passed
    else if is_word (codes "fail") word || is_word (codes "failed") word then Some Failed
    else if is_word (codes "skip") word || is_word (codes "skipped") word then Some Skipped
    else None

abbrev pub has_run : Outcome → Bool
has_run Passed = true
has_run Failed = true
has_run Skipped = false

abbrev pub has_failed : Outcome → Bool
has_failed Passed = false
has_failed Failed = true
has_failed Skipped = false

-- ---- lines

-- the column of results is the first whose cell in the header is this name, under the case rule of the model
abbrev pub result_column : ModelView → List ℕ → List (List ℕ) → Option ℕ
result_column m name header = position (λ cell. is_same_text m.fold name cell) header

-- its word in a line; none where the line ends before it, or where its text is no word for a result
abbrev pub word_in : ℕ → List ℕ → Option Outcome
word_in column line = option_and_then outcome_of (slice_get (cells_of_line line) column)

-- the first line without one is refused
abbrev pub wordless : ℕ → List (ℕ × List ℕ) → Option Stop
wordless column lines = option_map (λ line. BadResult line.0) (find (λ line. is_none (word_in column line.1)) lines)

-- what became of the test in a line that has a word
abbrev pub outcome_in : ℕ → ℕ × List ℕ → Outcome
outcome_in column line = unwrap_or (word_in column line.1) Skipped

-- the lines of the tests that ran: those that weren't skipped
abbrev pub lines_that_ran : ℕ → List (ℕ × List ℕ) → List (ℕ × List ℕ)
lines_that_ran column lines = filter (λ line. has_run (outcome_in column line)) lines

-- ---- the table

-- the tests that ran, and of each whether it failed
pub record Results : Type 0 where
  pub tests : List (List (Option ℕ))
  pub failed : List Bool

abbrev pub results_beside : ModelView → List (List ℕ) → ℕ → List (ℕ × List ℕ) → Results
results_beside m header column lines = record {
  tests = map (λ line. row_of_line m header line.1) (lines_that_ran column lines);
  failed = map (λ line. has_failed (outcome_in column line)) (lines_that_ran column lines);
}

-- those under a header, where this is the column of results
abbrev pub results_under : ModelView → List (List ℕ) → List (ℕ × List ℕ) → Option ℕ → Result Results Cause
results_under m header lines None = Err (causes.Stop NoResult)
results_under m header lines (Some column) = unless (wordless column lines) (Ok (results_beside m header column lines))

-- those in the lines that have a byte, of which the first is the header
abbrev pub results_numbered : ModelView → List ℕ → List (ℕ × List ℕ) → Result Results Cause
results_numbered m name [] = Err (causes.Stop NoResult)
results_numbered m name (first ∷ lines) =
    let header = cells_of_line first.1 in
    results_under m header lines (result_column m name header)

-- those in the bytes of a table, in the column of this name; a table that isn't one of tests of the model is refused first
abbrev pub results_in : ModelView → List ℕ → List ℕ → Result Results Cause
results_in m name bytes = and_then (rows_or_cause (read_rows m Suite bytes)) (λ reading. results_numbered m name (filled_lines bytes))
