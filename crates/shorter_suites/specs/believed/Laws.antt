-- What holds of shorter suites. (This project's rules.)
use Rattle.std.specs.Prelude.{ℕ, List, map, Option}

-- the rows of numbered lines
abbrev pub rows_of : List (ℕ × List (Option ℕ)) → List (List (Option ℕ))
rows_of lines = map (λ line. line.1) lines
