use Rattle.std.proofs.Common.{ℕ, ◌≡◌, ◌++◌, ◌+◌, ◌<◌, ◌≤◌, ◌==◌, [], true, drop, take, length}
use Rattle.std.specs.Prelude.{slice_index_or}
use Rattle.row_forms.specs.believed.Tables.{is_single, pieces}
use Rattle.row_text.specs.Turns.{AreTurns, IsFor, turns_at}
use Rattle.suite_forms.specs.believed.Suites.{param_names, spelled_row}
use Rattle.suite_forms.proofs.suite.add_cells.Given as goal

-- what is added with what the cells that are left add is what all add
abbrev pub invariant-loop-place : goal.invariant-loop-place
invariant-loop-place l =
    let names = param_names l.model in
    let earlier = take l.at l.rows in
    let cells = spelled_row l.model earlier (slice_index_or l.rows l.at []) in
    record {
      text : l.into.items ++ pieces l.pieces.form (l.place == 0) (is_single names) (drop l.place names) (drop l.place cells)
          ≡ l.fn.into.items ++ pieces l.pieces.form true (is_single names) names cells;
      written : (p : ℕ) → p < l.place → AreTurns l.model (take (l.at + 1) l.rows) p (turns_at l.turns p);
      open_ones : (p : ℕ) → l.place ≤ p → p < length l.model.params → AreTurns l.model earlier p (turns_at l.turns p);
      shape : IsFor l.model l.turns;
    }
