-- How a text of comma-separated values reads. (RFC 4180, section 2.)
use Rattle.std.specs.Prelude.{ℕ, Bool, true, false, List, [], ◌∷◌, ◌++◌, Option, Some, None, Result, Ok, Err, ◌==◌}
use Rattle.model_lex.specs.believed.Lines.{without_mark}
use Rattle.comma_rows.specs.declared.position.Position.{Position}
use Rattle.comma_rows.specs.declared.comma_fault.CommaFault.{CommaFault}
use Rattle.comma_rows.specs.declared.comma_fault.CommaCause.TheVariants.{OpenQuote}
use Rattle.comma_rows.specs.declared.action.Place.{Place}
use Rattle.comma_rows.specs.declared.action.Place.TheVariants.{LineStart, CellStart, InText, InQuotes, AfterQuote}
use Rattle.comma_rows.specs.declared.action.Action.{Action}
use Rattle.comma_rows.specs.declared.action.Action.TheVariants.{Skips, Passes, Adds, EndsCell, EndsRow, Stops}
use Rattle.comma_rows.specs.believed.Positions.{first_place, next}
use Rattle.comma_rows.specs.believed.Actions.{action_of}

-- a cell: the place where it begins, its text, and whether it is the last of its row
pub record Cell : Type 0 where
  pub at : Position
  pub text : List ℕ
  pub ends_row : Bool

-- the cells of a text up to the first fault, and this fault
pub record Reading : Type 0 where
  pub cells : List Cell
  pub fault : Option CommaFault

abbrev pub no_more : Reading
no_more = record { cells = []; fault = None }

abbrev pub stopped : CommaFault → Reading
stopped fault = record { cells = []; fault = Some fault }

abbrev pub with_cell : Cell → Reading → Reading
with_cell cell reading = record { cells = cell ∷ reading.cells; fault = reading.fault }

abbrev pub begins_with_feed : List ℕ → Bool
begins_with_feed [] = false
begins_with_feed (byte ∷ bytes) = byte == 10

-- the end of the text ends the row at hand
abbrev pub at_end : Place → Position → List ℕ → Reading
at_end LineStart begun text = no_more
at_end CellStart begun text = with_cell (record { at = begun; text = text; ends_row = true }) no_more
at_end InText begun text = with_cell (record { at = begun; text = text; ends_row = true }) no_more
at_end InQuotes begun text = stopped (record { at = begun; cause = OpenQuote })
at_end AfterQuote begun text = with_cell (record { at = begun; text = text; ends_row = true }) no_more

-- a byte's action, and then what follows; `after` is the place behind the byte
abbrev pub follow : Action → ℕ → Position → Position → Position → List ℕ → (Place → Position → List ℕ → Reading) → Reading
follow Skips byte begun at after text rest = rest LineStart after text
follow (Passes place) byte begun at after text rest = rest place begun text
follow (Adds place) byte begun at after text rest = rest place begun (text ++ byte ∷ [])
follow EndsCell byte begun at after text rest = with_cell (record { at = begun; text = text; ends_row = false }) (rest CellStart after [])
follow EndsRow byte begun at after text rest = with_cell (record { at = begun; text = text; ends_row = true }) (rest LineStart after [])
follow (Stops cause) byte begun at after text rest = stopped (record { at = at; cause = cause })

-- the reading of bytes from a place on, where the cell at hand began there and has this text so far
unfoldable pub read : Place → Position → Position → List ℕ → List ℕ → Reading
read place begun at text [] = at_end place begun text
read place begun at text (byte ∷ bytes) =
    follow (action_of place byte (begins_with_feed bytes)) byte begun at (next byte at) text (λ place begun text. read place begun (next byte at) text bytes)

-- the reading of a text
abbrev pub comma_cells : List ℕ → Reading
comma_cells bytes = read LineStart first_place first_place [] (without_mark bytes)

-- what was read, unless there is a fault
abbrev pub unless_fault : {A : Type 0} → Option CommaFault → A → Result A CommaFault
unless_fault None rows = Ok rows
unless_fault (Some fault) rows = Err fault
