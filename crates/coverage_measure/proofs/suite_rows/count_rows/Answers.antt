use Rattle.std.proofs.Common.{◌≡◌, ◌^◌, List, length, get_or, ap, ◌∙◌, arith}
use Rattle.row_text.specs.declared.row_file.FileRow.{FileRow}
use Rattle.coverage_measure.proofs.RowLemmas.{part_few, row_more}
use Rattle.coverage_measure.proofs.suite_rows.count_rows.Goals as goal

pub add-requires-clause-tests : goal.add-requires-clause-tests
add-requires-clause-tests c =
    (part_few c.args.model.now c.args.suite.now.rows c.loop-row.row-index (2 ^ 20) c.loop-row.counts c.requires.few c.loop-row.invariant).tests

pub add-requires-clause-incomplete : goal.add-requires-clause-incomplete
add-requires-clause-incomplete c =
    (part_few c.args.model.now c.args.suite.now.rows c.loop-row.row-index (2 ^ 20) c.loop-row.counts c.requires.few c.loop-row.invariant).incomplete

pub add-requires-clause-invalid : goal.add-requires-clause-invalid
add-requires-clause-invalid c =
    (part_few c.args.model.now c.args.suite.now.rows c.loop-row.row-index (2 ^ 20) c.loop-row.counts c.requires.few c.loop-row.invariant).invalid

pub loop-row-preserved : goal.loop-row-preserved
loop-row-preserved c =
    let same : c.as_slice-row-items.result.now ≡ c.args.suite.now.rows = c.as_slice-row-items.ensures in
    row_more c.args.model.now c.args.suite.now.rows c.loop-row.row-index c.row-item.result c.kind_of.result c.loop-row.counts c.add.new.self
    (omega (arith, c.loop-row-test.true, ap (λ (rows : List FileRow). length rows) same))
    (c.row-item.is ∙ ap (λ (rows : List FileRow). get_or rows c.loop-row.row-index c.row-item.result) same) c.kind_of.ensures c.loop-row.invariant c.add.ensures
