use Rattle.std.proofs.Common.{◌≡◌, ◌∙◌, length, true, sym, ap}
use Rattle.std.proofs.lemmas.List.Elements.{All-weaker}
use Rattle.cov_model.specs.believed.Valid.{is_row}
use Rattle.cov_model.proofs.RowLemmas.{FitsModel-is_row}
use Rattle.search_tests.proofs.reports.rows_of.Goals as goal

-- each row is as long as the model has parameters
pub push-requires : goal.push-requires
push-requires c =
    let m = c.args.model.now in
    let long : length c.as_slice.result.now ≡ length m.params = ap length c.as_slice.ensures ∙ (FitsModel-is_row m c.in-Some.row c.in-Some.ensures).as_long in
    All-weaker (λ row. is_row m row ≡ true) (λ other. length other ≡ length c.as_slice.result.now)
    (λ other good. (FitsModel-is_row m other good).as_long ∙ sym long) c.loop-first.rows c.loop-first.invariant
