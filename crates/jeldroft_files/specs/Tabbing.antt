-- What a call does that writes a table. (How this crate writes.)
use Rattle.std.specs.Prelude.{◌≡◌, ◌≤◌, ℕ, Bool, true, List, ◌++◌, length, Result, Ok, Err}
use Rattle.std.specs.Global.{Vec}
use Rattle.comma_rows.specs.believed.Reading.{Cell}
use Rattle.comma_rows.specs.declared.comma_fault.CommaError.{CommaError}
use Rattle.comma_rows.specs.declared.comma_fault.CommaError.TheVariants.{Fault, NoMemory}
use Rattle.jeldroft_files.specs.believed.Tables.{as_tabs, cell_text, next_line}

-- a cell was written behind a table, which has more bytes than line feeds, and this is the line for the next one
pub record AddsCell (starts : Bool) (line : ℕ) (cell : Cell) (before after : List ℕ) (then : ℕ) : Type 0 where
  pub text : after ≡ before ++ cell_text starts line cell
  pub moves : then ≡ next_line starts line cell
  pub within : then ≤ length after

-- the bytes as a table whose cells tabs part
abbrev pub Tabs : List ℕ → Result (Vec ℕ) CommaError → Type 0
Tabs bytes (Ok table) = as_tabs true bytes ≡ Ok table.items
Tabs bytes (Err (Fault fault)) = as_tabs true bytes ≡ Err fault
Tabs bytes (Err NoMemory) = Unit {0}
