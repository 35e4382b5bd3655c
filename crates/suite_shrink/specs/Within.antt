-- Marks beside other marks. (This project's rule.)
use Rattle.std.specs.Prelude.{◌≡◌, ℕ, ◌<◌, ◌≤◌, Bool, true, false, List, slice_index_or}

-- each place from one on and below another that is marked here is marked there
abbrev pub AreWithin : List Bool → List Bool → ℕ → ℕ → Type 0
AreWithin inner outer from to =
    (place : ℕ) → from ≤ place → place < to → slice_index_or inner place false ≡ true
    → slice_index_or outer place false ≡ true
