use Rattle.std.proofs.Common.{◌∙◌, sym}
use Rattle.shared_marks.proofs.RowLemmas.{complete_is_row}
use Rattle.suite_shrink.proofs.valid.is_test.Goals as goal

pub row_fault-requires : goal.row_fault-requires
row_fault-requires c = complete_is_row c.args.model.now c.args.cells.now c.requires (sym c.is_complete.ensures ∙ c.if-is_complete.true)
