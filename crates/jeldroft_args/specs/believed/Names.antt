-- No output has the name of an input or of another output. (This project's rule.)
use Rattle.std.specs.Prelude.{◌==◌, ◌&&◌, ◌||◌, Bool, List, [], ◌∷◌, Option, Some, None}
use Rattle.std.specs.Prelude.{if◌then◌else◌}
use Rattle.std.specs.List.{list_any}
use Rattle.std.specs.Str.{bytes_eq}
use Rattle.clap.specs.Words.{Text}

-- a name without `./` at its start
abbrev pub plain_name : Text → Text
plain_name (x ∷ y ∷ rest) = if (x == 46) && (y == 47) then rest else x ∷ y ∷ rest
plain_name name = name

abbrev pub is_same_name : Text → Text → Bool
is_same_name one other = bytes_eq (plain_name one) (plain_name other)

-- the first output that has the name of an input, or of a later output
abbrev pub overwritten : List Text → List Text → Option Text
overwritten inputs [] = None
overwritten inputs (output ∷ later) =
    if list_any (is_same_name output) inputs || list_any (is_same_name output) later
    then Some output else overwritten inputs later
