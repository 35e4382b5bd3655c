-- The last of the numbers in the order of a column.
use Rattle.std.specs.Prelude.{ℕ, List, [], ◌∷◌, Option, Some, None, nat_le, if◌then◌else◌}
use Rattle.std.specs.List.{list_any}

-- the first number after which none is as low
abbrev pub lowest : (ℕ → ℕ) → List ℕ → Option ℕ
lowest count [] = None
lowest count (p ∷ set) = if list_any (λ q. nat_le (count q) (count p)) set then lowest count set else Some p

-- a number that comes after another one, where there is one, takes its place if it is as low
abbrev pub lower : (ℕ → ℕ) → Option ℕ → ℕ → ℕ
lower count None p = p
lower count (Some q) p = if nat_le (count p) (count q) then p else q

-- a number before others, where there is one
abbrev pub with_last : Option ℕ → List ℕ → List ℕ
with_last None set = set
with_last (Some q) set = q ∷ set
