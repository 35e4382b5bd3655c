-- What a row file holds, or why it is refused: the rows with their lines and notes, in two modes.
-- (PICT's guide for seed files; the faults and their order are this project's rules.)
use Rattle.std.specs.Prelude.{ℕ, List, [], ◌∷◌}
use Rattle.cov_model.specs.believed.Sound.{ModelView}
use Rattle.definitions.specs.believed.RowFile.{filled_lines, cells_of_line}
use Rattle.definitions.specs.believed.RowReading.{RowNote, notes_under}

-- the notes on a row file's bytes, however many rows they hold
abbrev pub notes_of_lines : ModelView → List (ℕ × List ℕ) → List (ℕ × RowNote)
notes_of_lines m [] = []
notes_of_lines m (first ∷ lines) = notes_under m first.0 (cells_of_line first.1) lines

abbrev pub notes_of : ModelView → List ℕ → List (ℕ × RowNote)
notes_of m bytes = notes_of_lines m (filled_lines bytes)
