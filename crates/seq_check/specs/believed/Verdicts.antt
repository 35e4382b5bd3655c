-- What is said of a report on orders. (This project's rules.)
use Rattle.std.specs.Prelude.{ℕ, ◌+◌, Bool, ◌&&◌, not, List, ◌++◌, map, length, find, Option, Some, None, codes, decimal, position}
use Rattle.std.specs.List.{filter_map, list_any, join_with_byte}
use Rattle.std.specs.Str.{bytes_eq}
use Rattle.seq_check.specs.believed.Events.{EventsView}
use Rattle.seq_check.specs.believed.Orders.{is_had, sequences}
use Rattle.seq_check.specs.believed.OrderReport.{ReportLine, is_wrong, names_of, never_named, report_line_of, report_lines, row_named}
use Rattle.seq_check.specs.declared.verdict.OrderVerdict.{OrderVerdict}
use Rattle.seq_check.specs.declared.verdict.OrderVerdict.TheVariants.{Accepted, BadLine, Uncovered}

-- the rows and the sequences that the lines of a report name
abbrev pub rows_in : List ReportLine → List (List ℕ)
rows_in lines = filter_map row_named lines

abbrev pub nevers_in : List ReportLine → List (List ℕ)
nevers_in lines = filter_map never_named lines

-- no row has the sequence, and no line names it
abbrev pub is_left : List ReportLine → List ℕ → Bool
is_left lines sequence = not (is_had (rows_in lines) sequence) && not (list_any (bytes_eq sequence) (nevers_in lines))

-- where no line is wrong, by the first sequence that is left
abbrev pub by_sequence : List ReportLine → Option (List ℕ) → OrderVerdict
by_sequence lines (Some sequence) = Uncovered sequence
by_sequence lines None = Accepted (length (rows_in lines)) (length (nevers_in lines))

-- by the place of the first wrong line
abbrev pub by_line : EventsView → List ReportLine → Option ℕ → OrderVerdict
by_line e lines (Some n) = BadLine (n + 1)
by_line e lines None = by_sequence lines (find (is_left lines) (sequences e))

abbrev pub verdict_on : EventsView → List ReportLine → OrderVerdict
verdict_on e lines = by_line e lines (position is_wrong lines)

-- the verdict on the bytes of a report: the first line that is wrong, else the first sequence that is left,
-- else that the report is accepted
abbrev pub verdict : EventsView → List ℕ → OrderVerdict
verdict e bytes = verdict_on e (map (report_line_of e) (report_lines bytes))

-- the line that tells the verdict
abbrev pub verdict_text : EventsView → OrderVerdict → List ℕ
verdict_text e (Accepted rows omissions) = codes "accepted: " ++ decimal rows ++ codes " rows, " ++ decimal omissions ++ codes " omissions\n"
verdict_text e (BadLine line) = codes "refused: report line " ++ decimal line ++ codes "\n"
verdict_text e (Uncovered sequence) = codes "refused: uncovered " ++ join_with_byte 32 (names_of e sequence) ++ codes "\n"
