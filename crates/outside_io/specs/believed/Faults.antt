-- Counts of faults. A count is 0 in a new object, never falls, ends at 2^64 - 1 and stays there.
-- (This project's rule.)
use Rattle.std.specs.Prelude.{◌≡◌, ℕ, ◌-◌, ◌^◌, ◌<◌, ◌≤◌, ◌⊎◌}

-- the count rose, or it stands at its last value
abbrev pub Rose : ℕ → ℕ → Type 0
Rose old new = (old < new) ⊎ (new ≡ 2 ^ 64 - 1)

-- the count didn't fall, and didn't pass its last value
abbrev pub GoesOn : ℕ → ℕ → Type 0
GoesOn old new = (old ≤ new) × (old < 2 ^ 64 → new < 2 ^ 64)
