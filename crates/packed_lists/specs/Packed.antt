-- Lists that stand one behind another in one list, by where each of them ends.
use Rattle.std.specs.Prelude.{◌≡◌, ℕ, zero, suc, ◌≤◌, List, [], ◌∷◌, slice_index_or, slice_range}

-- the lists, of which the first begins at this place
abbrev pub cut : ℕ → List ℕ → List ℕ → List (List ℕ)
cut begin [] numbers = []
cut begin (end ∷ ends) numbers = slice_range numbers begin end ∷ cut end ends numbers

-- from this place on the ends rise, and the last is the end of the whole
abbrev pub AreEnds : ℕ → List ℕ → ℕ → Type 0
AreEnds begin [] whole = begin ≡ whole
AreEnds begin (end ∷ ends) whole = (begin ≤ end) × AreEnds end ends whole

-- where the list of a number begins: where the one before it ends
abbrev pub begin_of : ℕ → List ℕ → ℕ → ℕ
begin_of begin ends zero = begin
begin_of begin ends (suc i) = slice_index_or ends i 0
