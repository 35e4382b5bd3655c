-- What a call that reads the next cell does. (How this crate reads.)
use Rattle.std.specs.Prelude.{◌≡◌, ◌+◌, ◌≤◌, ◌^◌, ℕ, List, [], length, Option, Some, None, Result, Ok, Err}
use Rattle.comma_rows.specs.declared.position.Position.{Position}
use Rattle.comma_rows.specs.declared.comma_cells.Cut.{Cut}
use Rattle.comma_rows.specs.declared.comma_cells.CommaCell.{CommaCell}
use Rattle.comma_rows.specs.declared.comma_fault.CommaError.{CommaError}
use Rattle.comma_rows.specs.declared.comma_fault.CommaError.TheVariants.{Fault, NoMemory}
use Rattle.comma_rows.specs.believed.Reading.{Cell, Reading, no_more, stopped, with_cell, read}

-- a cell with its text
abbrev pub cell_seen : CommaCell → List ℕ → Cell
cell_seen cell text = record { at = cell.at; text = text; ends_row = cell.ends_row }

-- the next cell is the first that is left, the others stay; or none is left; or the text goes on with a fault
abbrev pub Takes : Result (Option CommaCell) CommaError → Reading → Reading → List ℕ → Type 0
Takes (Ok None) before after text = before ≡ no_more
Takes (Ok (Some cell)) before after text = before ≡ with_cell (cell_seen cell text) after
Takes (Err (Fault fault)) before after text = before ≡ stopped fault
Takes (Err NoMemory) before after text = Unit {0}

-- there is room for the numbers of each place in bytes that begin at a place
pub record HasRoom (at : Position) (bytes : List ℕ) : Type 0 where
  pub few : length bytes ≤ 2 ^ 28
  pub lines : at.line + length bytes ≤ 2 ^ 29
  pub columns : at.column + length bytes ≤ 2 ^ 29

-- the first cell of what bytes hold is cut off, and this is what is left
abbrev pub Cuts : Result (Option Cut) CommaError → Reading → List ℕ → Type 0
Cuts (Ok None) before text = before ≡ no_more
Cuts (Ok (Some cut)) before text = HasRoom cut.at cut.rest.now × (before ≡ with_cell (cell_seen cut.cell text) (read cut.place cut.at cut.at [] cut.rest.now))
Cuts (Err (Fault fault)) before text = before ≡ stopped fault
Cuts (Err NoMemory) before text = Unit {0}
