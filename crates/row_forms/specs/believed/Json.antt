-- The JSON of a table: an array with an object for each row. (RFC 8259.)
use Rattle.std.specs.Prelude.{ℕ, List, ◌++◌, Option, Some, None}
use Rattle.json.specs.Token.{Token, key, string, null}
use Rattle.json.specs.Json.{member}
use Rattle.json.specs.Print.{token_text}

-- the token of a cell
abbrev pub cell_token : Option (List ℕ) → Token
cell_token None = null
cell_token (Some text) = string text

-- a member as it is written
abbrev pub member_text : List ℕ → Option (List ℕ) → List ℕ
member_text name cell = token_text (key name) ++ token_text (cell_token cell)
