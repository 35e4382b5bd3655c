-- Places in a text: line and column, columns in characters. (This project's rule.)
use Rattle.std.specs.Prelude.{ℕ, ◌+◌, Bool, ◌&&◌, ◌==◌, nat_le, nat_lt, if◌then◌else◌}
use Rattle.comma_rows.specs.declared.position.Position.{Position}

-- the place of a text's first byte
abbrev pub first_place : Position
first_place = record { line = 1; column = 1 }

-- whether a byte goes on with a character of UTF-8 that an earlier byte began
abbrev pub is_inside : ℕ → Bool
is_inside byte = nat_le 128 byte && nat_lt byte 192

-- the place behind a byte
abbrev pub next : ℕ → Position → Position
next byte at =
    if byte == 10 then record { line = at.line + 1; column = 1 }
    else if is_inside byte then at
    else record { line = at.line; column = at.column + 1 }
