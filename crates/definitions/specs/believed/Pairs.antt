-- A partial row as the pairs of its parameters and values, and their text. (This project's rule.)
use Rattle.std.specs.Prelude.{ℕ, ◌+◌, List, [], ◌∷◌, ◌++◌, map, Option, Some, None, decimal}
use Rattle.std.specs.List.{join_with_byte}

-- the pairs of a partial row whose first cell is that of parameter p, the parameters rising
abbrev pub pairs_from : ℕ → List (Option ℕ) → List (ℕ × ℕ)
pairs_from p [] = []
pairs_from p (None ∷ cells) = pairs_from (p + 1) cells
pairs_from p (Some v ∷ cells) = (p, v) ∷ pairs_from (p + 1) cells

abbrev pub pairs_of : List (Option ℕ) → List (ℕ × ℕ)
pairs_of cells = pairs_from 0 cells

-- `p=v`
abbrev pub pair_text : ℕ × ℕ → List ℕ
pair_text pair = decimal pair.0 ++ 61 ∷ decimal pair.1

-- `p=v p=v`
abbrev pub pairs_text : List (ℕ × ℕ) → List ℕ
pairs_text pairs = join_with_byte 32 (map pair_text pairs)

-- the same of a partial row, by rising p
abbrev pub cells_text : List (Option ℕ) → List ℕ
cells_text cells = pairs_text (pairs_of cells)
