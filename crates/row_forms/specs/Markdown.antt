-- A cell of a table of GitHub's form, and how the lines of such a table read. (GitHub Flavored Markdown, tables and
-- backslash escapes; that each punctuation character is escaped is this project's rule.)
use Rattle.std.specs.Prelude.{ℕ, ◌-◌, Bool, List, [], ◌∷◌, ◌++◌, map, length, take, drop, ◌==◌, if◌then◌else◌}
use Rattle.comma_rows.specs.believed.Reading.{begins_with_feed}
use Rattle.comma_rows.specs.Rows.{rows_of}

-- Where a byte stands: at the pipe that begins a line, in a cell, behind a backslash, or at the line's end.
pub data Spot : Type 0 where
  AtPipe : Spot
  InCell : Spot
  Escaped : Spot
  AtFeed : Spot

-- the text between two pipes without the blank at each end
abbrev pub without_blanks : List ℕ → List ℕ
without_blanks text = drop 1 (take (length text - 1) text)

-- the cells of lines, each with whether it is the last of its line: a cell ends at a pipe that stands behind no
-- backslash, a line ends where a line feed follows such a pipe, and what stands behind a backslash is itself
unfoldable pub cells_from : Spot → List ℕ → List ℕ → List (List ℕ × Bool)
cells_from spot text [] = []
cells_from AtPipe text (byte ∷ bytes) = cells_from InCell [] bytes
cells_from AtFeed text (byte ∷ bytes) = cells_from AtPipe [] bytes
cells_from Escaped text (byte ∷ bytes) = cells_from InCell (text ++ byte ∷ []) bytes
cells_from InCell text (byte ∷ bytes) =
    if byte == 92 then cells_from Escaped text bytes
    else if byte == 124 then (without_blanks text, begins_with_feed bytes) ∷ cells_from (if begins_with_feed bytes then AtFeed else InCell) [] bytes
    else cells_from InCell (text ++ byte ∷ []) bytes

-- the first line has the names, the second parts them from the rows
abbrev pub without_second : List (List (List ℕ)) → List (List (List ℕ))
without_second [] = []
without_second (names ∷ []) = names ∷ []
without_second (names ∷ dashes ∷ rows) = names ∷ rows

-- the rows of a table's text, of which the first has the names
abbrev pub markdown_texts : List ℕ → List (List (List ℕ))
markdown_texts text = without_second (map (map (λ cell. cell.0)) (rows_of (λ cell. cell.1) (cells_from AtPipe [] text)))
