-- Where a number belongs among others that rise.
use Rattle.std.specs.Prelude.{ℕ, ◌≤◌, List, [], ◌∷◌}

-- it belongs before these: the first of them isn't less
abbrev pub IsPlaceOf : ℕ → List ℕ → Type 0
IsPlaceOf n [] = Unit {0}
IsPlaceOf n (k ∷ rest) = n ≤ k
