use Rattle.std.proofs.Common.{◌≡◌, length, ◌∙◌, ap}
use Rattle.std.specs.Prelude.{sum}
use Rattle.definitions.specs.believed.Demand.{demanded_tuples}
use Rattle.shared_marks.proofs.PlaceLemmas.{all_places}
use Rattle.suite_shrink.proofs.ServedLemmas.{marks_are}
use Rattle.suite_shrink.proofs.served.marks_of.Goals as goal

pub mark_rows-requires-clause-bits : goal.mark_rows-requires-clause-bits
mark_rows-requires-clause-bits c =
    c.in_ok-table.ensures.0 ∙ c.count_tuples.ensures ∙ ap (λ p. sum p.sizes) c.requires.plan ∙ all_places c.args.model.now

pub returns : goal.returns
returns c =
    let m = c.args.model.now in
    let bits : c.in_ok-table.table.bits ≡ length (demanded_tuples m) =
    c.in_ok-table.ensures.0 ∙ c.count_tuples.ensures ∙ ap (λ p. sum p.sizes) c.requires.plan ∙ all_places m in
    marks_are m c.args.rows.now c.in_ok-table.table.table c.in_ok-table.seat c.mark_rows.new.seat c.in_ok-table.table.bits c.close.result
    c.in_ok-mark_rows.ensures c.in_ok-table.ensures.1 bits c.close.ensures.held c.close.ensures.whole
