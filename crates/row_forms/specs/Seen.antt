-- Borrowed names and cells, as their texts. (How contracts see them.)
use Rattle.std.specs.Prelude.{ℕ, List, map, Option}
use Rattle.std.specs.Option.{option_copied}
use Rattle.std.specs.Borrow.{Bor}

abbrev pub names_seen : List (Bor (List ℕ)) → List (List ℕ)
names_seen names = map (λ name. name.now) names

abbrev pub cells_seen : List (Option (Bor (List ℕ))) → List (Option (List ℕ))
cells_seen cells = map option_copied cells
