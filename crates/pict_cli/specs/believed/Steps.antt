-- What the steps of a run say of each other. (This project's rules.)
use Rattle.std.specs.Prelude.{◌≡◌, ◌≢◌, ℕ, List, Some, IfSome}
use Rattle.outside_io.specs.believed.Files.{Files}
use Rattle.made_models.specs.believed.MadeModel.{made_text}
use Rattle.definitions.specs.believed.Settings.{Settings}

-- what the folder tells of the model file, after a run that made its model: with every status but those of want of memory
-- and of a fault of writing the file holds the made model, unless the proof was written over it
abbrev pub HoldsMade : Settings → ℕ → List ℕ → Files → ℕ → Type 0
HoldsMade s n name files status =
    status ≢ 1 → status ≢ 8 → (status ≡ 0 → s.proof ≢ Some name) → IfSome (files name) (λ held. held ≡ Some (made_text n))
