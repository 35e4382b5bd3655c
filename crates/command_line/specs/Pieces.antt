-- Lines on standard error as they are written, piece by piece.
use Rattle.std.specs.Prelude.{ℕ, zero, suc, List, ◌∷◌, ◌++◌, codes, decimal}
use Rattle.definitions.specs.believed.Pairs.{pair_text}

-- what a pair adds to those before it: a space before it, unless it is the first
abbrev pub pair_behind : ℕ → ℕ × ℕ → List ℕ
pair_behind zero pair = pair_text pair
pair_behind (suc place) pair = 32 ∷ pair_text pair

-- how the line of a question above the budget begins
abbrev pub spent_opening : ℕ → List ℕ
spent_opening budget = codes "error: search budget " ++ decimal budget ++ codes " spent on "

-- the line of a refusal of a file of rows at one of its lines, by the text behind the line's number
abbrev pub row_line : ℕ → List ℕ → List ℕ
row_line line text = codes "error: row file line " ++ decimal line ++ text
