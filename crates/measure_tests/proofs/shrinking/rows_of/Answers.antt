use Rattle.std.proofs.Common.{rules, ◌≡◌, true, length, All, ◌∙◌, sym, ap, subst, slice_index_or}
use Rattle.std.proofs.lemmas.List.Elements.{All-push}
use Rattle.cov_model.specs.Fits.{FitsModel}
use Rattle.cov_model.specs.believed.Valid.{is_valid}
use Rattle.shared_marks.proofs.OwnTupleLemmas.{of_valid}
use Rattle.shared_marks.proofs.RowLemmas.{complete_is_row}
use Rattle.measure_tests.proofs.shrinking.rows_of.Goals as goal

pub row_fault-requires : goal.row_fault-requires
row_fault-requires c =
    let fits : FitsModel c.args.model.now c.row-item.result.cells = search rules in
    complete_is_row c.args.model.now c.row-item.result.cells fits (sym c.is_complete.ensures ∙ c.if-not-is_complete.false)

pub push-requires : goal.push-requires
push-requires c = λ k d within.
    let fits : FitsModel c.args.model.now c.row-item.result.cells = search rules in
    (of_valid c.args.model.now (slice_index_or c.loop-row.rows k d) (c.loop-row.invariant k d within)).long
    ∙ sym (ap length c.as_slice.ensures ∙ fits.as_long)

pub loop-row-preserved : goal.loop-row-preserved
loop-row-preserved c =
    let valid : is_valid c.args.model.now c.row-item.result.cells ≡ true = search rules in
    subst (All (λ row. is_valid c.args.model.now row ≡ true)) (sym c.in_ok-push.ensures.ok)
    (All-push (λ row. is_valid c.args.model.now row ≡ true) c.loop-row.rows c.as_slice.result.now c.loop-row.invariant
    (subst (λ row. is_valid c.args.model.now row ≡ true) (sym c.as_slice.ensures) valid))
