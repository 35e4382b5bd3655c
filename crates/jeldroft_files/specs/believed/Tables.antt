-- A table whose cells commas part (RFC 4180), as the table whose cells tabs part that says the same. (This project's
-- rule.)
use Rattle.std.specs.Prelude.{ℕ, ◌+◌, ◌-◌, ◌==◌, ◌&&◌, ◌||◌, Bool, true, false, List, [], ◌∷◌, ◌++◌, map, length, nat_eq, replicate, Option, Some, None, Result, Ok, if◌then◌else◌, codes}
use Rattle.std.specs.List.{ends_with}
use Rattle.comma_rows.specs.believed.Reading.{Cell, comma_cells, unless_fault}
use Rattle.comma_rows.specs.declared.comma_fault.CommaFault.{CommaFault}
use Rattle.jeldroft_args.specs.declared.delimiter.Delimiter.{Delimiter}
use Rattle.jeldroft_args.specs.declared.delimiter.Delimiter.TheVariants as delimiters

-- what parts the cells of a file: what the words say, else a comma where its name ends with `.csv`, else a tab
abbrev pub is_comma : Option Delimiter → List ℕ → Bool
is_comma (Some delimiters.Tab) name = false
is_comma (Some delimiters.Comma) name = true
is_comma None name = ends_with nat_eq name (codes ".csv")

-- a tab, a line feed or a carriage return in a cell, which no name of a model has, becomes the control character 1, which
-- none has either
abbrev pub shown_byte : ℕ → ℕ
shown_byte byte = if (byte == 9) || ((byte == 10) || (byte == 13)) then 1 else byte

-- a row of one empty cell becomes a space, so that its line isn't empty
abbrev pub shown : Bool → Cell → List ℕ
shown starts cell = if starts && (cell.ends_row && (length cell.text == 0)) then 32 ∷ [] else map shown_byte cell.text

-- what stands before a cell: in a row a tab; at its start line feeds, so that the row stands in the line that it begins in
abbrev pub parting : Bool → ℕ → Cell → List ℕ
parting true line cell = replicate (cell.at.line - line) 10
parting false line cell = 9 ∷ []

abbrev pub ending : Cell → List ℕ
ending cell = if cell.ends_row then 10 ∷ [] else []

-- a cell with what stands before and behind it
abbrev pub cell_text : Bool → ℕ → Cell → List ℕ
cell_text starts line cell = parting starts line cell ++ (shown starts cell ++ ending cell)

-- the line that a cell stands in, and the one that the next cell stands in, as far as the text goes
abbrev pub cell_line : Bool → ℕ → Cell → ℕ
cell_line true line cell = line + (cell.at.line - line)
cell_line false line cell = line

abbrev pub next_line : Bool → ℕ → Cell → ℕ
next_line starts line cell = if cell.ends_row then cell_line starts line cell + 1 else cell_line starts line cell

-- cells, of which the first may start its row, from a line on
unfoldable pub tabbed_from : Bool → ℕ → List Cell → List ℕ
tabbed_from starts line [] = []
tabbed_from starts line (cell ∷ cells) = cell_text starts line cell ++ tabbed_from cell.ends_row (next_line starts line cell) cells

-- a byte-order mark, which every table may begin with, and the rows
abbrev pub tabbed : List Cell → List ℕ
tabbed cells = 239 ∷ 187 ∷ 191 ∷ tabbed_from true 1 cells

-- the bytes of a file as a table whose cells tabs part
abbrev pub as_tabs : Bool → List ℕ → Result (List ℕ) CommaFault
as_tabs false bytes = Ok bytes
as_tabs true bytes = let reading = comma_cells bytes in unless_fault reading.fault (tabbed reading.cells)
