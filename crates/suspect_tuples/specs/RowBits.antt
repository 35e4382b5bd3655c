-- Rows that are looked up by the bits of words. (How this program finds the smallest suspicious tuples; no public
-- clause speaks of it.)
use Rattle.std.specs.Prelude.{◌≡◌, ℕ, ◌+◌, ◌*◌, ◌<◌, ◌==◌, false, List, Bool, Option, map, slice_index_or}
use Rattle.std.specs.Int.{bit_at}
use Rattle.bit_table.specs.Words.{mark_at}
use Rattle.suspect_tuples.specs.believed.Suspects.{has_tuple}

-- whether the row at a place contains the tuple; there is none past the last row
abbrev pub has_at : List (List (Option ℕ)) → List (ℕ × ℕ) → ℕ → Bool
has_at rows tuple at = slice_index_or (map (has_tuple tuple) rows) at false

-- words mark exactly the rows that contain the tuple
abbrev pub MarkHaving : List (List (Option ℕ)) → List (ℕ × ℕ) → List ℕ → Type 0
MarkHaving rows tuple words = (at : ℕ) → mark_at words at ≡ has_at rows tuple at

-- so does a word of the 64 rows of its number
abbrev pub MarksHaving : List (List (Option ℕ)) → List (ℕ × ℕ) → ℕ → ℕ → Type 0
MarksHaving rows tuple k word = (i : ℕ) → i < 64 → (bit_at word i == 1) ≡ has_at rows tuple (64 * k + i)
