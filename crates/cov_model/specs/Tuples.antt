-- Tuples as lists of pairs (parameter, value), and as partial rows.
use Rattle.std.specs.Prelude.{ℕ, ◌<◌, List, [], ◌∷◌}

-- the parameters rise
abbrev pub IsRising : List (ℕ × ℕ) → Type 0
IsRising [] = Unit {0}
IsRising (a ∷ []) = Unit {0}
IsRising (a ∷ b ∷ pairs) = (a.0 < b.0) × IsRising (b ∷ pairs)
