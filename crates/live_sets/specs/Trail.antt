-- Live values, and the trail of those that were taken away. (This project's rule.)
use Rattle.std.specs.Prelude.{◌≡◌, ℕ, ◌≤◌, Bool, true, false, List, [], ◌∷◌, length, take, drop, slice_index_or, slice_set, sum_by}
use Rattle.std.specs.List.{count_by}
use Rattle.live_sets.specs.declared.sets.Taken.{Taken}

-- for each parameter a mark for each of its values, which is set where the value is live, and the values
-- that were taken away, the last one at the end
pub record LiveView : Type 0 where
  pub live : List (List Bool)
  pub trail : List Taken

-- how many values are live
abbrev pub live_count : List (List Bool) → ℕ
live_count live = sum_by (count_by (λ mark. mark)) live

-- the mark of a value
abbrev pub mark_at : List (List Bool) → ℕ → ℕ → Bool
mark_at live q w = slice_index_or (slice_index_or live q []) w false

-- the marks with this one of a value
abbrev pub with_mark : List (List Bool) → ℕ → ℕ → Bool → List (List Bool)
with_mark live q w mark = slice_set live q (slice_set (slice_index_or live q []) w mark)

-- the marks after the values were put back, the last first
abbrev pub put_back : List Taken → List (List Bool) → List (List Bool)
put_back [] live = live
put_back (taken ∷ rest) live = with_mark (put_back rest live) taken.param taken.value true

-- the sets after going back to where the trail had this length
abbrev pub undone : LiveView → ℕ → LiveView
undone sets len = record { live = put_back (drop len sets.trail) sets.live; trail = take len sets.trail }

-- going back from the later sets to the trail of the earlier ones gives these
pub record IsSince (earlier later : LiveView) : Type 0 where
  pub longer : length earlier.trail ≤ length later.trail
  pub back : undone later (length earlier.trail) ≡ earlier
