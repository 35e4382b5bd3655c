use Rattle.std.proofs.Common.{ℕ, ◌<◌, [], take, length}
use Rattle.definitions.specs.believed.Report.{row_lines}
use Rattle.row_text.specs.Buffering.{Adds}
use Rattle.row_text.specs.Turns.{IsFor, AreTurns, turns_at}
use Rattle.row_text.proofs.report.put_rows.Given as goal

abbrev pub invariant-loop-at : goal.invariant-loop-at
invariant-loop-at g l =
    let state = g.O.Sink.seen in
    record {
      text : Adds l.fn.turns.buffer (state l.fn.out) l.turns.buffer (state l.out) (row_lines l.model [] (take l.at l.rows));
      next : (p : ℕ) → p < length l.model.params → AreTurns l.model (take l.at l.rows) p (turns_at l.turns.next p);
      shape : IsFor l.model l.turns.next;
    }
