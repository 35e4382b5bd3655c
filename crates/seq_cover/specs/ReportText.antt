-- The text of the report of a suite. (This project's rules.)
use Rattle.std.specs.Prelude.{ℕ, zero, suc, List, ◌∷◌}

-- what a part of a line adds to so many parts before it: a mark before it, unless it is the first
abbrev pub part_behind : ℕ → ℕ → List ℕ → List ℕ
part_behind mark zero part = part
part_behind mark (suc before) part = mark ∷ part
