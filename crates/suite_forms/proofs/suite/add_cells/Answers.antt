use Rattle.std.proofs.Common.{◌<◌, ◌≤◌, ◌+◌, ◌++◌, [], length, get_or, take, true, sym, ap, subst, arith, below_more}
use Rattle.row_forms.specs.believed.Tables.{is_single, pieces}
use Rattle.row_text.specs.Turns.{AreTurns, turns_at}
use Rattle.suite_forms.specs.believed.Suites.{param_names, spelled_row}
use Rattle.suite_forms.proofs.Tables.{cell-added, cells-added}
use Rattle.suite_forms.proofs.suite.add_cells.Goals as goal

pub loop-place-preserved : goal.loop-place-preserved
loop-place-preserved c =
    let m = c.args.model.now in
    let rows = c.args.rows.now in
    let form = c.args.pieces.now.form in
    let earlier = take c.args.at rows in
    let row = get_or rows c.args.at [] in
    let place = c.loop-place.place in
    let inside : place < length m.params = omega (arith, c.len-place-end.ensures, ap length c.params.ensures.value) in
    let text = cell-added form m earlier row place c.loop-place.into.items c.cell_bytes-bytes.result.now c.extend_from_slice.new.self.items
    (c.args.into.now.items ++ pieces form true (is_single (param_names m)) (param_names m) (spelled_row m earlier row))
    inside c.cell_bytes-bytes.ensures.text c.in_ok-extend_from_slice.ensures.items c.loop-place.invariant.text in
    record {
      text = text;
      written = below_more (λ p. AreTurns m (take (c.args.at + 1) rows) p (turns_at c.cell_bytes-bytes.new.turns p)) place
          (λ p below. subst (AreTurns m (take (c.args.at + 1) rows) p) (sym (c.cell_bytes-bytes.ensures.others p (λ e. omega (arith, e, below)))) (c.loop-place.invariant.written p below))
          c.cell_bytes-bytes.ensures.next;
      open_ones = λ p least known.
          subst (AreTurns m earlier p) (sym (c.cell_bytes-bytes.ensures.others p (λ e. omega (arith, e, least)))) (c.loop-place.invariant.open_ones p (omega (arith, least)) known);
      shape = c.cell_bytes-bytes.ensures.shape;
    }

pub returns-clause-text : goal.returns-clause-text
returns-clause-text c =
    let m = c.args.model.now in
    let rows = c.args.rows.now in
    let form = c.args.pieces.now.form in
    let earlier = take c.args.at rows in
    let row = get_or rows c.args.at [] in
    let past : length m.params ≤ c.loop-place.place = omega (arith, c.len-place-end.ensures, ap length c.params.ensures.value) in
    cells-added form m earlier row c.loop-place.place c.loop-place.into.items
    (c.args.into.now.items ++ pieces form true (is_single (param_names m)) (param_names m) (spelled_row m earlier row)) past c.loop-place.invariant.text

pub returns-clause-next : goal.returns-clause-next
returns-clause-next c = λ p inside. c.loop-place.invariant.written p (omega (arith, inside, c.len-place-end.ensures, ap length c.params.ensures.value))
