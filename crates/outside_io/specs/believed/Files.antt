-- What a folder holds under a name: None where that is untold, Some None where it is told that
-- there is no file, and Some (Some bytes) where the bytes are told. (This project's rule.)
use Rattle.std.specs.Prelude.{◌≡◌, ℕ, ◌⊎◌, Option, Some, List, take}

-- what each name holds
abbrev pub Files : Type 0
Files = List ℕ → Option (Option (List ℕ))

-- a name that a write failed on holds what it held, or a prefix of the bytes
abbrev pub HoldsOldOrPrefix : Option (Option (List ℕ)) → Option (List ℕ) → List ℕ → Type 0
HoldsOldOrPrefix before file bytes =
    (before ≡ Some file) ⊎ ((count : ℕ) × (file ≡ Some (take count bytes)))
