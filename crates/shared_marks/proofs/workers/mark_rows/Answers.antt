use Rattle.std.proofs.Common.{◌≡◌, length, ◌∙◌, ap}
use Rattle.std.specs.Prelude.{sum}
use Rattle.definitions.specs.believed.Demand.{demanded_tuples}
use Rattle.row_text.specs.RowFiles.{suite_seen}
use Rattle.shared_marks.proofs.PlaceLemmas.{all_places}
use Rattle.shared_marks.proofs.WorkerLemmas.{all_marked}
use Rattle.shared_marks.proofs.workers.mark_rows.Goals as goal

pub mark_rounds-requires-clause-bits : goal.mark_rounds-requires-clause-bits
mark_rounds-requires-clause-bits g c =
    λ κs lives.
    c.in_ok-table.ensures.0 ∙ c.count_tuples.ensures ∙ ap (λ p. sum p.sizes) c.requires.plan ∙ all_places c.args.model.now

pub returns : goal.returns
returns g c =
    let m = c.args.model.now in
    let bits : c.in_ok-table.table.bits ≡ length (demanded_tuples m) =
    c.in_ok-table.ensures.0 ∙ c.count_tuples.ensures ∙ ap (λ p. sum p.sizes) c.requires.plan ∙ all_places m in
    all_marked m (suite_seen c.args.file.now) c.in_ok-table.table.table c.in_ok-table.seat c.in_ok-seat.seat c.in_ok-table.table.bits c.close.result
    c.in_ok-seat.ensures c.in_ok-table.ensures.1 bits c.close.ensures.held c.close.ensures.whole
