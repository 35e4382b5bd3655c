-- What a byte does in a table of comma-separated values, by where it stands. (RFC 4180, section 2; that a line feed
-- alone ends a line too, and that a line without a byte is no row, are this project's rules.)
use Rattle.std.specs.Prelude.{ℕ, Bool, ◌==◌, if◌then◌else◌}
use Rattle.comma_rows.specs.declared.comma_fault.CommaCause.TheVariants.{TextAfterQuote, QuoteInText, LoneReturn}
use Rattle.comma_rows.specs.declared.action.Place.{Place}
use Rattle.comma_rows.specs.declared.action.Place.TheVariants.{LineStart, CellStart, InText, InQuotes, AfterQuote}
use Rattle.comma_rows.specs.declared.action.Action.{Action}
use Rattle.comma_rows.specs.declared.action.Action.TheVariants.{Skips, Passes, Adds, EndsCell, EndsRow, Stops}

-- a line feed ends the row, unless the line has no byte
abbrev pub ends_line : Place → Action
ends_line LineStart = Skips
ends_line CellStart = EndsRow
ends_line InText = EndsRow
ends_line InQuotes = EndsRow
ends_line AfterQuote = EndsRow

-- a carriage return before a line feed has no meaning
abbrev pub passes_return : Place → Action
passes_return LineStart = Skips
passes_return CellStart = Passes CellStart
passes_return InText = Passes InText
passes_return InQuotes = Passes InQuotes
passes_return AfterQuote = Passes AfterQuote

-- a quote opens a cell in quotes, as its first byte
abbrev pub opens_quotes : Place → Action
opens_quotes LineStart = Passes InQuotes
opens_quotes CellStart = Passes InQuotes
opens_quotes InText = Stops QuoteInText
opens_quotes InQuotes = Stops QuoteInText
opens_quotes AfterQuote = Stops QuoteInText

-- any other byte is text, but not behind the quote that ends a cell
abbrev pub adds_text : Place → Action
adds_text LineStart = Adds InText
adds_text CellStart = Adds InText
adds_text InText = Adds InText
adds_text InQuotes = Stops TextAfterQuote
adds_text AfterQuote = Stops TextAfterQuote

-- outside of quotes
abbrev pub outside_quotes : Place → ℕ → Bool → Action
outside_quotes place byte before_feed =
    if byte == 44 then EndsCell
    else if byte == 10 then ends_line place
    else if byte == 13 then (if before_feed then passes_return place else Stops LoneReturn)
    else if byte == 34 then opens_quotes place
    else adds_text place

-- between quotes each byte is text, and two quotes stand for one
abbrev pub action_of : Place → ℕ → Bool → Action
action_of InQuotes byte before_feed = if byte == 34 then Passes AfterQuote else Adds InQuotes
action_of AfterQuote byte before_feed = if byte == 34 then Adds InQuotes else outside_quotes AfterQuote byte before_feed
action_of LineStart byte before_feed = outside_quotes LineStart byte before_feed
action_of CellStart byte before_feed = outside_quotes CellStart byte before_feed
action_of InText byte before_feed = outside_quotes InText byte before_feed
