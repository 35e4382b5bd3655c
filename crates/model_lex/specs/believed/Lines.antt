-- The lines of a file: a byte-order mark at its start is skipped, and a line feed ends a line.
-- (This project's rules.)
use Rattle.std.specs.Prelude.{ℕ, ◌-◌, Bool, ◌&&◌, List, [], ◌∷◌, map, length, take, drop, ◌==◌, nat_eq, nat_lt, slice_index, if◌then◌else◌}
use Rattle.std.specs.List.{slice_split, starts_with, enumerate_from}

abbrev pub is_line_feed : ℕ → Bool
is_line_feed byte = byte == 10

abbrev pub byte_order_mark : List ℕ
byte_order_mark = 0xef ∷ 0xbb ∷ 0xbf ∷ []

-- the bytes without a byte-order mark at the start
abbrev pub without_mark : List ℕ → List ℕ
without_mark bytes = if starts_with nat_eq bytes byte_order_mark then drop 3 bytes else bytes

-- a line without one carriage return at its end
abbrev pub without_return : List ℕ → List ℕ
without_return line = if nat_lt 0 (length line) && (slice_index line (length line - 1) == 13) then take (length line - 1) line else line

-- the pieces between line feeds that are lines: the last one, which no line feed ends, only if it has a byte
abbrev pub ended_lines : List (List ℕ) → List (List ℕ)
ended_lines [] = []
ended_lines (line ∷ []) = if length line == 0 then [] else line ∷ []
ended_lines (line ∷ next ∷ lines) = line ∷ ended_lines (next ∷ lines)

-- the lines of a file
abbrev pub file_lines : List ℕ → List (List ℕ)
file_lines bytes = map without_return (ended_lines (slice_split is_line_feed bytes))

-- the lines of a file that may begin with a byte-order mark, each with its number from 1
abbrev pub numbered_lines : List ℕ → List (ℕ × List ℕ)
numbered_lines bytes = enumerate_from 1 (file_lines (without_mark bytes))
