use Rattle.std.proofs.Common.{◌<◌, length, ◌∙◌, sym, ap, arith}
use Rattle.std.proofs.lemmas.Bool.{not-true}
use Rattle.distinct_rows.specs.Known.{is_known_row, with_row}
use Rattle.suite_shrink.proofs.FirstLemmas.{apart_more}
use Rattle.suite_shrink.proofs.valid.are_distinct.Goals as goal

pub loop-i-preserved : goal.loop-i-preserved
loop-i-preserved c =
    let known = c.loop-i.known in
    let within : c.loop-i.i < length c.args.rows.now = omega (arith, c.loop-i-test.true, c.loop-i.auto.i-end, c.len-i-end.ensures) in
    let more = apart_more c.args.rows.now known c.add.new.self c.loop-i.i within c.loop-i.invariant.known c.loop-i.invariant.apart
    (c.in_ok-add.ensures.rows ∙ ap (with_row known) c.row.ensures)
    (ap (is_known_row known) (sym c.row.ensures) ∙ not-true (is_known_row known c.row.result.now) (sym c.in_ok-add.ensures.added ∙ c.if-not-branch.false)) in
    record { known = more.0; apart = more.1 }
