use Rattle.std.proofs.Common.{◌≡◌, ◌+◌, ◌<◌, ◌^◌, find, length, nat_lt}
use Rattle.std.specs.Option.{option_map, option_or}
use Rattle.definitions.specs.believed.RowFile.{cells_of_line}
use Rattle.row_text.proofs.file_rows.count_lines.Given as goal

abbrev pub invariant-loop-line : goal.invariant-loop-line
invariant-loop-line l = record {
  count : l.count + length l.lines ≡ length l.initial.lines;
  few : length l.initial.lines < 2 ^ 32;
  wide : option_or l.wide (option_map (λ line. line.0) (find (λ line. nat_lt l.columns (length (cells_of_line line.1))) l.lines))
      ≡ option_map (λ line. line.0) (find (λ line. nat_lt l.columns (length (cells_of_line line.1))) l.initial.lines);
}

abbrev pub decreases-loop-line : goal.decreases-loop-line
decreases-loop-line l = length l.lines
