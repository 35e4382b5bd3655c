use Rattle.suspect_tuples.proofs.CountingSteps.{counted_all, counted_more}
use Rattle.suspect_tuples.proofs.counting.counted_rows.Goals as goal

pub loop-at-preserved : goal.loop-at-preserved
loop-at-preserved c =
    counted_more c.args.rows.now c.args.failed.now c.loop-at.at c.index-rows-at.result _ c.loop-at.counted c.add.new.self c.loop-at-test.true c.requires.flags c.loop-at.invariant
    (record { passing = c.in_ok-add.ensures.passing; failing = c.in_ok-add.ensures.failing; incomplete = c.in_ok-add.ensures.incomplete })

pub returns : goal.returns
returns c =
    let all = counted_all c.args.rows.now c.args.failed.now c.loop-at.at c.loop-at.counted c.loop-at-test.false c.requires.flags c.loop-at.invariant in
    record { passing = all.passing; failing = all.failing; incomplete = all.incomplete }
