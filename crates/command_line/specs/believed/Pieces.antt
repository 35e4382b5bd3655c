-- Lines on standard error as they are written, piece by piece.
use Rattle.std.specs.Prelude.{ℕ, List, ◌++◌, codes, decimal}

-- the line of so many of what has this name, where there may be fewer
abbrev pub limit_line : List ℕ → ℕ → ℕ → List ℕ
limit_line name count most = codes "error: limit: " ++ name ++ codes " " ++ decimal count ++ codes " above " ++ decimal most ++ codes "\n"
