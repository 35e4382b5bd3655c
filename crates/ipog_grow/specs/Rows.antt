-- Rows in order of first occurrence. (This project's rules.)
use Rattle.std.specs.Prelude.{◌≡◌, ℕ, ◌+◌, ◌<◌, ◌≤◌, Bool, true, ◌||◌, not, List, [], ◌∷◌, ◌++◌, length, take, drop, slice_index_or, All}
use Rattle.std.specs.Prelude.{Option, is_some, if◌then◌else◌}
use Rattle.std.specs.Cmp.Lexicographic.{slice_cmp}
use Rattle.std.specs.List.{list_any}
use Rattle.std.specs.Option.{option_cmp}
use Rattle.std.specs.Ordering.{is_lt, nat_cmp}
use Rattle.definitions.specs.believed.Seeds.{is_same_row}

-- one of the rows is the same as this one
abbrev pub is_known_row : List (List (Option ℕ)) → List (Option ℕ) → Bool
is_known_row rows row = list_any (λ known. is_same_row known row) rows

-- the rows with this one at the end, unless one of them is the same
abbrev pub with_row : List (List (Option ℕ)) → List (Option ℕ) → List (List (Option ℕ))
with_row rows row = if is_known_row rows row then rows else rows ++ row ∷ []

-- the seeds with this one at the end, unless it gives no value or its row is known
abbrev pub with_seed : List (List (Option ℕ)) → List (ℕ × List (Option ℕ)) → ℕ × List (Option ℕ) → List (ℕ × List (Option ℕ))
with_seed known seeds seed = if is_known_row known seed.1 || not (list_any is_some seed.1) then seeds else seeds ++ seed ∷ []

-- each row is as long as the first
abbrev pub AreAsLong : List (List (Option ℕ)) → Type 0
AreAsLong rows = All (λ row. length row ≡ length (slice_index_or rows 0 [])) rows

-- a row stands before another: it has the lower value at the first parameter where they differ
abbrev pub stands_before : List (Option ℕ) → List (Option ℕ) → Bool
stands_before row other = is_lt (slice_cmp (option_cmp nat_cmp) row other)

-- each row stands before the next one
abbrev pub AreRising : List (List (Option ℕ)) → Type 0
AreRising rows = (i : ℕ) → i + 1 < length rows → stands_before (slice_index_or rows i []) (slice_index_or rows (i + 1) []) ≡ true

-- work in place: the first i rows are done, and the first `count` of the rows now are what they gave
pub record AreDone (before now : List (List (Option ℕ))) (i count : ℕ) (given : List (List (Option ℕ))) : Type 0 where
  pub given_are : take count now ≡ given
  pub within : count ≤ i
  pub rest : drop i now ≡ drop i before
  pub as_many : length now ≡ length before
