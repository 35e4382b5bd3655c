-- The lines that a run writes beside its output, each with its line feed. (This project's rules.)
use Rattle.std.specs.Prelude.{ℕ, List, Option, codes}
use Rattle.definitions.specs.believed.Pairs.{pairs_of}
use Rattle.definitions.specs.believed.Diagnostics.{model_note_line, row_note_line, spent_line}

abbrev pub repeated_name_line : ℕ → List ℕ
repeated_name_line line = model_note_line line (codes "V1") (codes "repeated value name dropped")

abbrev pub unknown_column_line : ℕ → List ℕ
unknown_column_line line = row_note_line line (codes "V2") (codes "unknown column")

abbrev pub unknown_value_line : ℕ → List ℕ
unknown_value_line line = row_note_line line (codes "V3") (codes "unknown value")

abbrev pub row_dropped_line : ℕ → List ℕ
row_dropped_line line = row_note_line line (codes "V4") (codes "no valid row serves this row")

abbrev pub budget_line : ℕ → List (Option ℕ) → List ℕ
budget_line budget question = spent_line budget (pairs_of question)
