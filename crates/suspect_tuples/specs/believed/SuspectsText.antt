-- The text of suspicious tuples. (This project's rule.)
use Rattle.std.specs.Prelude.{ℕ, List, ◌++◌, flat_map, length, codes, decimal}
use Rattle.definitions.specs.believed.Pairs.{pairs_text}
use Rattle.definitions.specs.believed.Statistics.{number_line}
use Rattle.suspect_tuples.specs.believed.Suspects.{Suspects}

-- the line of a tuple that so many failing rows contain
abbrev pub suspect_line : List (ℕ × ℕ) × ℕ → List ℕ
suspect_line found = codes "suspect " ++ pairs_text found.0 ++ codes " : " ++ decimal found.1 ++ codes " failing\n"

-- the text of all
abbrev pub suspects_text : Suspects → List ℕ
suspects_text s =
    number_line (codes "Passing tests: ") s.passing ++ number_line (codes "Failing tests: ") s.failing ++ number_line (codes "Incomplete tests: ") s.incomplete
    ++ number_line (codes "Suspicious tuples: ") (length s.found) ++ flat_map suspect_line s.found
