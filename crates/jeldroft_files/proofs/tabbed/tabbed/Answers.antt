use Rattle.std.proofs.Common.{List, ℕ, subst}
use Rattle.comma_rows.specs.Taking.{cell_seen}
use Rattle.jeldroft_files.specs.Tabbing.{AddsCell}
use Rattle.jeldroft_files.proofs.TabbedSteps.{all_written, few, goes_on, none_left}
use Rattle.jeldroft_files.proofs.tabbed.tabbed.Goals as goal

pub loop-text-preserved : goal.loop-text-preserved
loop-text-preserved c =
    let adds = subst (λ (text : List ℕ). AddsCell c.loop-text.starts c.loop-text.line (cell_seen c.in-Some.cell text) c.loop-text.table.items c.add_cell.new.into.items c.in_ok-line.line)
    c.as_slice.ensures.value c.in_ok-line.ensures in
    let left = goes_on c.args.bytes.now c.loop-text.starts c.loop-text.line c.in_ok-line.line c.loop-text.table.items c.add_cell.new.into.items
    c.in_ok-cell.field-0 c.in-Some.cell c.loop-text.cells c.take_cell.new.self c.take_cell.new.text.items
    c.in-Some.is c.in_ok-cell.ensures.takes adds c.loop-text.invariant.grown c.loop-text.invariant.fault in
    record { within = adds.within; grown = left.0; fault = left.1 }

pub returns-clause-table : goal.returns-clause-table
returns-clause-table c =
    let none = none_left c.args.bytes.now c.loop-text.starts c.loop-text.line c.loop-text.table.items c.in_ok-cell.field-0 c.loop-text.cells c.take_cell.new.self
    c.take_cell.new.text.items c.in_default.is c.in_ok-cell.ensures.takes c.loop-text.invariant.grown c.loop-text.invariant.fault in
    all_written c.args.bytes.now c.loop-text.table.items none.0 none.1

pub returns-clause-within : goal.returns-clause-within
returns-clause-within c =
    let none = none_left c.args.bytes.now c.loop-text.starts c.loop-text.line c.loop-text.table.items c.in_ok-cell.field-0 c.loop-text.cells c.take_cell.new.self
    c.take_cell.new.text.items c.in_default.is c.in_ok-cell.ensures.takes c.loop-text.invariant.grown c.loop-text.invariant.fault in
    few c.args.bytes.now c.loop-text.table.items none.0 c.requires
