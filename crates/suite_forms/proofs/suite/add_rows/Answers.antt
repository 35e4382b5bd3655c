use Rattle.std.proofs.Common.{◌++◌, [], true, refl, sym, subst, arith}
use Rattle.row_forms.specs.believed.Tables.{rows_text}
use Rattle.row_text.specs.Turns.{AreTurns, IsFor, turns_at}
use Rattle.row_text.proofs.Turning.{AreTurns-first, first_turns-IsFor}
use Rattle.suite_forms.specs.believed.Suites.{param_names, spelled_rows}
use Rattle.suite_forms.proofs.Tables.{row-added, rows-added}
use Rattle.suite_forms.proofs.suite.add_rows.Goals as goal

pub loop-at-init : goal.loop-at-init
loop-at-init c =
    let m = c.args.model.now in
    record {
      text = refl;
      next = λ p inside. subst (λ turns. AreTurns m [] p (turns_at turns p)) (sym c.requires.turns) (AreTurns-first m p inside);
      shape = subst (IsFor m) (sym c.requires.turns) (first_turns-IsFor m);
    }

pub loop-at-preserved : goal.loop-at-preserved
loop-at-preserved c =
    let m = c.args.model.now in
    let rows = c.args.rows.now in
    let form = c.args.pieces.now.form in
    record {
      text = row-added form m rows c.loop-at.at c.loop-at.into.items c.add_row.new.into.items
          (c.args.into.now.items ++ rows_text form (param_names m) true (spelled_rows m [] rows)) (omega arith) c.in_ok-add_row.ensures.text c.loop-at.invariant.text;
      next = c.in_ok-add_row.ensures.next;
      shape = c.add_row.ensures.shape;
    }

pub returns : goal.returns
returns c =
    let m = c.args.model.now in
    let rows = c.args.rows.now in
    let form = c.args.pieces.now.form in
    rows-added form m rows c.loop-at.at c.loop-at.into.items
    (c.args.into.now.items ++ rows_text form (param_names m) true (spelled_rows m [] rows)) (omega arith) c.loop-at.invariant.text
