use Rattle.std.proofs.Common.{map, length, ◌∙◌, ap, refl, ◌<◌}
use Rattle.std.specs.Prelude.{IfSome}
use Rattle.std.proofs.lemmas.List.Elements.{All-same}
use Rattle.definitions.specs.believed.RowFile.{cells_of_line, named_param}
use Rattle.row_text.proofs.ColumnSteps.{header_begins, header_ends, header_goes_on, params_exist}
use Rattle.row_text.proofs.header.read_header.Goals as goal

pub loop-cell-init : goal.loop-cell-init
loop-cell-init c = record {
  so_far = header_begins c.args.names.now (cells_of_line c.args.line.text.now) c.new-cells.result c.args.line.number c.new.result c.new-2.result c.new-cells.ensures c.new.ensures c.new-2.ensures;
  same = refl;
}

pub loop-cell-preserved : goal.loop-cell-preserved
loop-cell-preserved c =
    let cell = c.in-Some.cell.now in
    record {
      so_far = header_goes_on c.args.names.now (cells_of_line c.args.line.text.now) c.loop-cell.cells c.take_cell.new.self c.args.line.number c.loop-cell.header.columns c.push.new.self.columns
          c.loop-cell.header.notes c.push.new.self.notes cell c.in_ok-column.column c.loop-cell.invariant.so_far c.in-Some.ensures
          (c.in_ok-column.ensures.named ∙ ap (λ m. named_param m cell) c.loop-cell.invariant.same) c.in_ok-push.ensures.columns c.in_ok-push.ensures.notes;
      same = c.in_ok-column.ensures.same ∙ c.loop-cell.invariant.same;
    }

pub returns-clause-columns : goal.returns-clause-columns
returns-clause-columns c =
    (header_ends c.args.names.now (cells_of_line c.args.line.text.now) c.loop-cell.cells c.args.line.number
    c.loop-cell.header.columns c.loop-cell.header.notes c.loop-cell.invariant.so_far c.in_default.ensures).0

pub returns-clause-notes : goal.returns-clause-notes
returns-clause-notes c =
    (header_ends c.args.names.now (cells_of_line c.args.line.text.now) c.loop-cell.cells c.args.line.number
    c.loop-cell.header.columns c.loop-cell.header.notes c.loop-cell.invariant.so_far c.in_default.ensures).1

pub returns-clause-within : goal.returns-clause-within
returns-clause-within c =
    let m = c.args.names.now in
    let cells = cells_of_line c.args.line.text.now in
    let columns = (header_ends m cells c.loop-cell.cells c.args.line.number
    c.loop-cell.header.columns c.loop-cell.header.notes c.loop-cell.invariant.so_far c.in_default.ensures).0 in
    All-same (λ column. IfSome column (λ p. p < length m.params)) c.loop-cell.header.columns (map (named_param m) cells) columns (params_exist m cells)
