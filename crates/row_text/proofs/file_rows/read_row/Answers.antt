use Rattle.std.proofs.Common.{◌<◌, ◌∷◌, [], ◌++◌, Bool, cond, None, length, get_or, refl, ◌∙◌, ap, arith}
use Rattle.std.specs.Prelude.{replicate}
use Rattle.definitions.specs.believed.RowFile.{cells_of_line}
use Rattle.definitions.specs.believed.RowReading.{UnknownValue}
use Rattle.row_text.specs.believed.Readings.{note_told}
use Rattle.row_text.specs.RowLines.{is_unknown_cell, with_cell}
use Rattle.row_text.proofs.RowSteps.{next_of_left, row_begins, row_ends, row_goes_on}
use Rattle.row_text.proofs.file_rows.read_row.Goals as goal

pub loop-cell-init : goal.loop-cell-init
loop-cell-init c = record {
  so_far = row_begins c.args.names.now c.args.columns.now (cells_of_line c.args.line.text.now) c.new-cells.result c.args.line.number c.args.notes.now c.in_ok-row.row c.param_count.ensures.sound
      c.new-cells.ensures (c.in_ok-row.ensures ∙ ap (λ n. replicate n None) c.param_count.ensures.count);
  few = omega arith;
  same = refl;
}

pub loop-cell-preserved : goal.loop-cell-preserved
loop-cell-preserved c =
    let m = c.args.names.now in
    let columns = c.args.columns.now in
    let cells = cells_of_line c.args.line.text.now in
    let k = c.loop-cell.place in
    let cell = c.in-Some.cell.now in
    let column = get_or columns k None in
    let note = note_told (c.args.line.number, UnknownValue) in
    let within : k < length cells = (next_of_left cells c.loop-cell.cells c.take_cell.new.self k cell c.loop-cell.invariant.so_far.is_left c.in-Some.ensures).0 in
    let in_columns : k < length columns = omega (arith, within, c.requires.narrow) in
    let due = c.in_ok-due.ensures.unknown ∙ ap (λ n. is_unknown_cell n column cell) c.loop-cell.invariant.same in
    record {
      so_far = row_goes_on m columns cells c.loop-cell.cells c.take_cell.new.self c.args.line.number c.args.notes.now k c.loop-cell.row c.read_cell.new.row c.loop-cell.notes c.note_if.new.notes
          column cell c.param_count.ensures.sound c.loop-cell.invariant.so_far c.in-Some.ensures in_columns refl (c.requires.within k None in_columns)
          (c.in_ok-due.ensures.row ∙ ap (λ n. with_cell n column cell c.loop-cell.row) c.loop-cell.invariant.same) c.in_ok-due.ensures.long
          (c.in_ok-note_if.ensures ∙ ap (λ (b : Bool). c.loop-cell.notes ++ cond b (note ∷ []) []) due);
      few = omega (arith, within);
      same = c.in_ok-due.ensures.same ∙ c.loop-cell.invariant.same;
    }

pub returns-clause-row : goal.returns-clause-row
returns-clause-row c =
    (row_ends c.args.names.now c.args.columns.now c.loop-cell.cells c.args.line.number c.args.line.text.now c.args.notes.now c.loop-cell.place c.loop-cell.row c.loop-cell.notes
    c.loop-cell.invariant.so_far c.in_default.ensures c.loop-cell.invariant.few).0

pub returns-clause-notes : goal.returns-clause-notes
returns-clause-notes c =
    (row_ends c.args.names.now c.args.columns.now c.loop-cell.cells c.args.line.number c.args.line.text.now c.args.notes.now c.loop-cell.place c.loop-cell.row c.loop-cell.notes
    c.loop-cell.invariant.so_far c.in_default.ensures c.loop-cell.invariant.few).1
