use Rattle.std.proofs.Common.{◌≡◌, None, sym, ◌∙◌, rules, arith}
use Rattle.definitions.specs.believed.RowFile.{cells_of_line}
use Rattle.row_text.proofs.RowSteps.{next_of_left}
use Rattle.suspect_tuples.proofs.ResultSteps.{column_found, column_nowhere, column_passed, no_more_cells}
use Rattle.suspect_tuples.proofs.reading.result_column.Goals as goal

pub returns-in_err-cell : goal.returns-in_err-cell
returns-in_err-cell c =
    let is : c.from_residual.result ≡ None = search rules in
    is
    ∙ column_nowhere c.args.fold (cells_of_line c.args.header.now) c.loop-place.cells c.loop-place.place c.loop-place.invariant.left c.in_err-cell.ensures c.loop-place.invariant.before

pub returns-then-is_same : goal.returns-then-is_same
returns-then-is_same c =
    column_found c.args.fold (cells_of_line c.args.header.now) c.loop-place.cells c.take_cell.new.self c.loop-place.place c.in_ok-cell.cell.now c.loop-place.invariant.left c.in_ok-cell.ensures
    c.loop-place.invariant.before (sym c.is_same.ensures ∙ c.if-is_same.true)

pub loop-place-preserved : goal.loop-place-preserved
loop-place-preserved c =
    let next = next_of_left (cells_of_line c.args.header.now) c.loop-place.cells c.take_cell.new.self c.loop-place.place c.in_ok-cell.cell.now c.loop-place.invariant.left c.in_ok-cell.ensures in
    record {
      left = next.2;
      before = column_passed c.args.fold (cells_of_line c.args.header.now) c.loop-place.place c.in_ok-cell.cell.now next.1 c.loop-place.invariant.before (sym c.is_same.ensures ∙ c.if-is_same.false);
    }

pub returns : goal.returns
returns c =
    let none = no_more_cells c.args.header.now c.loop-place.cells c.loop-place.place c.loop-place.invariant.left (omega (arith, c.loop-place-test.false)) in
    column_nowhere c.args.fold (cells_of_line c.args.header.now) c.loop-place.cells c.loop-place.place c.loop-place.invariant.left none c.loop-place.invariant.before
