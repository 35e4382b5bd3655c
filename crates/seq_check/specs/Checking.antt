-- How a report is checked line by line.
use Rattle.std.specs.Prelude.{◌≡◌, ℕ, ◌+◌, ◌≤◌, ◌^◌, false, List, ◌++◌, length, map, All}
use Rattle.seq_check.specs.believed.Events.{EventsView}
use Rattle.seq_check.specs.EventSets.{OpenView, Tells}
use Rattle.seq_check.specs.believed.OrderReport.{ReportLine, is_wrong, report_line_of, report_lines}
use Rattle.seq_check.specs.believed.Verdicts.{is_left, nevers_in, rows_in}

-- what is asked of a report, once some of its lines are read, none of which is wrong, and a rest is left
pub record Checked (e : EventsView) (report : List ℕ) (o : OpenView) (line rows omissions : ℕ) (rest : List ℕ) : Type 0 where
  pub lines : List ReportLine
  pub whole : map (report_line_of e) (report_lines report) ≡ lines ++ map (report_line_of e) (report_lines rest)
  pub good : All (λ l. is_wrong l ≡ false) lines
  pub numbered : line ≡ length lines
  pub rows_are : rows ≡ length (rows_in lines)
  pub omissions_are : omissions ≡ length (nevers_in lines)
  pub rows_few : rows ≤ line
  pub omissions_few : omissions ≤ line
  pub len : o.len ≡ e.len
  pub left : Tells o (length e.names) (is_left lines)
  pub few : line + length rest ≤ 2 ^ 28
