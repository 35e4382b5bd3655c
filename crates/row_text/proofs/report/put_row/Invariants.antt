use Rattle.std.proofs.Common.{ℕ, ◌+◌, ◌<◌, ◌≤◌, [], map, take, length}
use Rattle.std.specs.Prelude.{slice_index_or}
use Rattle.std.specs.List.{join_with_byte}
use Rattle.cov_model.specs.believed.Valid.{param_numbers}
use Rattle.definitions.specs.believed.Report.{cell_text}
use Rattle.row_text.specs.Buffering.{Adds}
use Rattle.row_text.specs.Turns.{IsFor, AreTurns, turns_at}
use Rattle.row_text.proofs.report.put_row.Given as goal

abbrev pub invariant-loop-place : goal.invariant-loop-place
invariant-loop-place g l =
    let state = g.O.Sink.seen in
    let earlier = take l.at l.rows in
    record {
      text : Adds l.fn.turns.buffer (state l.fn.out) l.turns.buffer (state l.out)
          (join_with_byte 9 (take l.place (map (cell_text l.model earlier (slice_index_or l.rows l.at [])) (param_numbers l.model))));
      written : (p : ℕ) → p < l.place → AreTurns l.model (take (l.at + 1) l.rows) p (turns_at l.turns.next p);
      open_ones : (p : ℕ) → l.place ≤ p → p < length l.model.params → AreTurns l.model earlier p (turns_at l.turns.next p);
      shape : IsFor l.model l.turns.next;
    }
