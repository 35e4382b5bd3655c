use Rattle.std.proofs.Common.{ℕ, ◌≡◌, ◌++◌, ◌<◌, ◌==◌, [], true, drop, take, length}
use Rattle.row_forms.specs.believed.Tables.{rows_text}
use Rattle.row_text.specs.Turns.{AreTurns, IsFor, turns_at}
use Rattle.suite_forms.specs.believed.Suites.{param_names, spelled_rows}
use Rattle.suite_forms.proofs.suite.add_rows.Given as goal

-- what is added with what the rows that are left add is what all add
abbrev pub invariant-loop-at : goal.invariant-loop-at
invariant-loop-at l =
    let names = param_names l.model in
    record {
      text : l.into.items ++ rows_text l.pieces.form names (l.at == 0) (spelled_rows l.model (take l.at l.rows) (drop l.at l.rows))
          ≡ l.fn.into.items ++ rows_text l.pieces.form names true (spelled_rows l.model [] l.rows);
      next : (p : ℕ) → p < length l.model.params → AreTurns l.model (take l.at l.rows) p (turns_at l.turns p);
      shape : IsFor l.model l.turns;
    }
