use Rattle.std.proofs.Common.{◌∙◌, sym}
use Rattle.shared_marks.proofs.RowLemmas.{complete_is_row}
use Rattle.proof_check.proofs.RowLemmas.{incomplete_fails}
use Rattle.proof_check.proofs.rows.is_valid.Goals as goal

pub row_fault-requires : goal.row_fault-requires
row_fault-requires c = complete_is_row c.args.model.now c.args.cells.now c.requires (sym c.is_complete.ensures ∙ c.if-not-is_complete.false)

pub returns-then-not-is_complete : goal.returns-then-not-is_complete
returns-then-not-is_complete c =
    sym (incomplete_fails c.args.model.now c.args.cells.now c.requires (sym c.is_complete.ensures ∙ c.if-not-is_complete.true))
