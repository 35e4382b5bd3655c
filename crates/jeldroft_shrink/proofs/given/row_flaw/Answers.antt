use Rattle.std.proofs.Common.{◌∙◌, sym}
use Rattle.shared_marks.proofs.RowLemmas.{complete_is_row}
use Rattle.jeldroft_shrink.proofs.given.row_flaw.Goals as goal

pub row_fault-requires : goal.row_fault-requires
row_fault-requires c = complete_is_row c.args.model.now c.args.row.now.cells c.requires (sym c.is_complete.ensures ∙ c.if-not-is_complete.false)
