-- The greatest of some scores, and where it is found.
use Rattle.std.specs.Prelude.{◌≡◌, ◌<◌, ◌≤◌, ℕ, List, length, nat_lt, if◌then◌else◌, slice_index}
use Rattle.ipog_grow.specs.declared.top_score.TopScore.{TopScore}

-- the greater of two scores with where it begins, or the first of equal ones
abbrev pub greater_of : TopScore → ℕ → ℕ → TopScore
greater_of most score begin = if nat_lt most.score score then (record { score = score; begin = begin }) else most

-- the greatest of the first scores, or 0, which no score has before it begins
pub record IsGreatest (scores : List ℕ) (count : ℕ) (most : TopScore) : Type 0 where
  pub all : (k : ℕ) → k < count → slice_index scores k ≤ most.score
  pub before : (k : ℕ) → k < most.begin → slice_index scores k < most.score
  pub own : 0 < most.score → (k : ℕ) × (k < length scores) × (slice_index scores k ≡ most.score)
