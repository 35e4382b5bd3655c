-- A cell of a table of GitHub's form, and how the lines of such a table read. (GitHub Flavored Markdown, tables and
-- backslash escapes; that each punctuation character is escaped is this project's rule.)
use Rattle.std.specs.Prelude.{ℕ, ◌-◌, Bool, ◌&&◌, ◌||◌, List, [], ◌∷◌, flat_map, nat_le, if◌then◌else◌}

-- from ! to /, from : to @, from [ to ` and from { to ~
abbrev pub is_punctuation : ℕ → Bool
is_punctuation byte =
    (nat_le 33 byte && nat_le byte 47) || (nat_le 58 byte && nat_le byte 64) || (nat_le 91 byte && nat_le byte 96) || (nat_le 123 byte && nat_le byte 126)

-- a punctuation character stands behind a backslash
abbrev pub escaped_byte : ℕ → List ℕ
escaped_byte byte = if is_punctuation byte then 92 ∷ byte ∷ [] else byte ∷ []

abbrev pub escaped : List ℕ → List ℕ
escaped cell = flat_map escaped_byte cell
