-- The report on orders: a line for each row, which is an order of the events, then a line for each sequence
-- that no permitted order has, with a cycle as the reason. (This project's rules.)
use Rattle.std.specs.Prelude.{ℕ, ◌+◌, Bool, true, false, ◌&&◌, List, [], ◌++◌, map, take, drop, Option, Some, None, ◌==◌, codes, slice_index_or, unwrap_or, if◌then◌else◌}
use Rattle.std.specs.List.{join_with_byte, list_all, slice_split}
use Rattle.std.specs.Option.{is_some}
use Rattle.std.specs.Str.{bytes_eq}
use Rattle.model_lex.specs.believed.Lines.{ended_lines, is_line_feed}
use Rattle.seq_check.specs.believed.Events.{EventsView}
use Rattle.seq_check.specs.believed.EventFile.{is_space, number_of}
use Rattle.seq_check.specs.believed.Orders.{arrows, is_cycle, is_permitted, is_sequence}

-- the names of events
abbrev pub names_of : EventsView → List ℕ → List (List ℕ)
names_of e events = map (λ event. slice_index_or e.names event []) events

-- the line of a row: the names of its events, parted by tabs
abbrev pub row_line : EventsView → List ℕ → List ℕ
row_line e order = join_with_byte 9 (names_of e order)

-- the line of a sequence that no permitted order has, with a cycle
abbrev pub never_line : EventsView → List ℕ → List ℕ → List ℕ
never_line e sequence cycle = codes "never " ++ join_with_byte 32 (names_of e sequence) ++ codes " : " ++ join_with_byte 32 (names_of e cycle)

-- the lines of a report: each ends with a line feed, but for the last, which may end without one if it has a byte
abbrev pub report_lines : List ℕ → List (List ℕ)
report_lines bytes = ended_lines (slice_split is_line_feed bytes)

-- the numbers of the events with these names, where all of them are names of events
abbrev pub numbers_of : List (List ℕ) → List (List ℕ) → Option (List ℕ)
numbers_of names texts =
    if list_all (λ text. is_some (number_of names text)) texts then Some (map (λ text. unwrap_or (number_of names text) 0) texts) else None

-- what a line of a report is: that of a permitted order, that of a sequence with a good cycle, or neither
pub data ReportLine : Type 0 where
  Row : List ℕ → ReportLine
  Never : List ℕ → ReportLine
  Wrong : ReportLine

-- parts that name the events of a permitted order
abbrev pub row_of : EventsView → Option (List ℕ) → ReportLine
row_of e (Some order) = if is_permitted e order then Row order else Wrong
row_of e None = Wrong

abbrev pub is_tab : ℕ → Bool
is_tab byte = byte == 9

abbrev pub row_in : EventsView → List ℕ → ReportLine
row_in e line = row_of e (numbers_of e.names (slice_split is_tab line))

-- parts that name the events of a sequence, and those of a cycle along its arrows
abbrev pub never_of : EventsView → Option (List ℕ) → Option (List ℕ) → ReportLine
never_of e (Some sequence) (Some cycle) = if is_sequence e sequence && is_cycle (arrows e sequence) cycle then Never sequence else Wrong
never_of e (Some sequence) None = Wrong
never_of e None cycle = Wrong

-- the parts of a line between spaces: `never`, the events of the sequence, `:`, the events of the cycle
abbrev pub has_marks : ℕ → List (List ℕ) → Bool
has_marks len parts = bytes_eq (slice_index_or parts 0 []) (codes "never") && bytes_eq (slice_index_or parts (len + 1) []) (codes ":")

abbrev pub never_in : EventsView → List (List ℕ) → ReportLine
never_in e parts =
    if has_marks e.len parts
    then never_of e (numbers_of e.names (take e.len (drop 1 parts))) (numbers_of e.names (drop (e.len + 2) parts)) else Wrong

abbrev pub or_else : ReportLine → ReportLine → ReportLine
or_else (Row order) other = Row order
or_else (Never sequence) other = Never sequence
or_else Wrong other = other

abbrev pub report_line_of : EventsView → List ℕ → ReportLine
report_line_of e line = or_else (row_in e line) (never_in e (slice_split is_space line))

-- the rows and the sequences that lines of a report name
abbrev pub row_named : ReportLine → Option (List ℕ)
row_named (Row order) = Some order
row_named (Never sequence) = None
row_named Wrong = None

abbrev pub never_named : ReportLine → Option (List ℕ)
never_named (Row order) = None
never_named (Never sequence) = Some sequence
never_named Wrong = None

abbrev pub is_wrong : ReportLine → Bool
is_wrong (Row order) = false
is_wrong (Never sequence) = false
is_wrong Wrong = true
