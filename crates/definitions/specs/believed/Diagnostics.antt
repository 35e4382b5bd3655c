-- The lines that a run writes beside its output, each with its line feed. (This project's rules.)
use Rattle.std.specs.Prelude.{ℕ, List, ◌++◌, codes, decimal}
use Rattle.definitions.specs.believed.Limits.{Counted, Parameters, Values, Names, Constraints, DemandedSets, DemandedTuples, Rows}
use Rattle.definitions.specs.believed.Limits.{SuspectCandidates, most_counted, Measured, ModelFile, RowFile, ProofFile, most_bytes}
use Rattle.definitions.specs.believed.Pairs.{pairs_text}

-- the seed of a shuffle that no word gives
abbrev pub used_seed_line : ℕ → List ℕ
used_seed_line seed = codes "Used seed: " ++ decimal seed ++ codes "\n"

-- a note on a line of the model file or of the row file, by its code and the code's text
abbrev pub model_note_line : ℕ → List ℕ → List ℕ → List ℕ
model_note_line line code text = codes "warning: model line " ++ decimal line ++ codes ": " ++ code ++ codes " " ++ text ++ codes "\n"

abbrev pub row_note_line : ℕ → List ℕ → List ℕ → List ℕ
row_note_line line code text = codes "warning: row file line " ++ decimal line ++ codes ": " ++ code ++ codes " " ++ text ++ codes "\n"

-- memory is wanted
abbrev pub memory_line : List ℕ
memory_line = codes "error: out of memory\n"

-- the plain cost of a question, given by its pairs of parameter and value, is above the budget
abbrev pub spent_line : ℕ → List (ℕ × ℕ) → List ℕ
spent_line budget question = codes "error: search budget " ++ decimal budget ++ codes " spent on " ++ pairs_text question ++ codes "\n"

-- the word of this number, from 1, has no reading
abbrev pub word_line : ℕ → List ℕ
word_line index = codes "error: word " ++ decimal index ++ codes " is not understood\n"

-- the model is refused at a line, by its code and the code's text
abbrev pub model_line : ℕ → List ℕ → List ℕ → List ℕ
model_line line code text = codes "error: model line " ++ decimal line ++ codes ": " ++ code ++ codes " " ++ text ++ codes "\n"

-- the row file is refused
abbrev pub no_header_line : List ℕ
no_header_line = codes "error: row file: F1 no header\n"

abbrev pub two_columns_line : ℕ → List ℕ
two_columns_line line = codes "error: row file line " ++ decimal line ++ codes ": F2 parameter in two columns\n"

abbrev pub no_column_line : ℕ → List ℕ
no_column_line p = codes "error: row file: F3 no column for parameter " ++ decimal p ++ codes "\n"

abbrev pub too_wide_line : ℕ → List ℕ
too_wide_line line = codes "error: row file line " ++ decimal line ++ codes ": F4 more cells than the header\n"

abbrev pub no_result_line : List ℕ
no_result_line = codes "error: row file: F5 no result column\n"

abbrev pub bad_result_line : ℕ → List ℕ
bad_result_line line = codes "error: row file line " ++ decimal line ++ codes ": F6 neither pass nor fail\n"

-- a file can't be read or written, by the name that was given, and the output can't be written
abbrev pub cannot_read_line : List ℕ → List ℕ
cannot_read_line name = codes "error: cannot read " ++ name ++ codes "\n"

abbrev pub cannot_write_line : List ℕ → List ℕ
cannot_write_line name = codes "error: cannot write " ++ name ++ codes "\n"

abbrev pub cannot_write_report_line : List ℕ
cannot_write_report_line = codes "error: cannot write the report\n"

-- what a counted thing is called
abbrev pub counted_name : Counted → List ℕ
counted_name Parameters = codes "parameters"
counted_name Values = codes "values"
counted_name Names = codes "names"
counted_name Constraints = codes "constraints"
counted_name DemandedSets = codes "demanded sets"
counted_name DemandedTuples = codes "demanded tuples"
counted_name Rows = codes "rows"
counted_name SuspectCandidates = codes "suspect candidates"

-- there are more of it than the most
abbrev pub count_limit_line : Counted → ℕ → List ℕ
count_limit_line counted n =
    codes "error: limit: " ++ counted_name counted ++ codes " " ++ decimal n ++ codes " above " ++ decimal (most_counted counted) ++ codes "\n"

-- what the bytes of a file are called
abbrev pub bytes_name : Measured → List ℕ
bytes_name ModelFile = codes "model bytes"
bytes_name RowFile = codes "row file bytes"
bytes_name ProofFile = codes "proof bytes"

-- it has more than that
abbrev pub bytes_limit_line : Measured → List ℕ
bytes_limit_line file = codes "error: limit: " ++ bytes_name file ++ codes " above " ++ decimal (most_bytes file) ++ codes "\n"
