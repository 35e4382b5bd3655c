-- The JSON of a table: an array with an object for each row. (RFC 8259.)
use Rattle.std.specs.Prelude.{ℕ, List, [], ◌∷◌, Option, Some, None}
use Rattle.json.specs.Json.{Json, Items, no_items, item, Members, no_members, member, array, object}

-- the value of a cell
abbrev pub cell_value : Option (List ℕ) → Json
cell_value None = Json.null
cell_value (Some text) = Json.string text

-- the members of a row's object, in the order of the columns
abbrev pub row_members : List (List ℕ) → List (Option (List ℕ)) → Members
row_members [] cells = no_members
row_members (name ∷ names) [] = no_members
row_members (name ∷ names) (cell ∷ cells) = member name (cell_value cell) (row_members names cells)

abbrev pub row_items : List (List ℕ) → List (List (Option (List ℕ))) → Items
row_items names [] = no_items
row_items names (row ∷ rows) = item (object (row_members names row)) (row_items names rows)

-- a table: an array with an object for each row, whose members are the names with their cells, in order
abbrev pub table_value : List (List ℕ) → List (List (Option (List ℕ))) → Json
table_value names rows = array (row_items names rows)
