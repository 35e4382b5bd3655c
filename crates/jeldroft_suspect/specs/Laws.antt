-- In which order combinations are told. (This project's rule.)
use Rattle.std.specs.Prelude.{◌≡◌, ◌⊎◌, ℕ, ◌<◌, List, AllPairs, IsPermutation, length}
use Rattle.std.specs.List.{range_with_len}
use Rattle.jeldroft_suspect.specs.believed.SuspectsText.{falling_places, found_at}

-- the combination at a place stands before the one at another: more failing tests have it, or as many, and it was found
-- first
abbrev pub StandsBefore : List (List (ℕ × ℕ) × ℕ) → ℕ → ℕ → Type 0
StandsBefore found at later = ((found_at found later).1 < (found_at found at).1) ⊎ (((found_at found later).1 ≡ (found_at found at).1) × (at < later))

-- places are those of all combinations, each once, in this order
pub record AreInOrder (found : List (List (ℕ × ℕ) × ℕ)) (places : List ℕ) : Type 0 where
  pub each : IsPermutation (range_with_len 0 (length found)) places
  pub falling : AllPairs (StandsBefore found) places

abbrev pub CombinationsAreToldInOrder : Type 0
CombinationsAreToldInOrder = (found : List (List (ℕ × ℕ) × ℕ)) → AreInOrder found (falling_places found)
