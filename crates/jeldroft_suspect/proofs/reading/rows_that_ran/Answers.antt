use Rattle.std.proofs.Common.{refl, rules}
use Rattle.jeldroft_suspect.proofs.RanLemmas.{ran_all, ran_more}
use Rattle.jeldroft_suspect.proofs.reading.rows_that_ran.Goals as goal

pub loop-place-preserved : goal.loop-place-preserved
loop-place-preserved c =
    ran_more c.args.rows.now c.args.outcomes.now c.loop-place.place c.loop-place.kept _ c.loop-place.invariant c.index-rows-place.result c.index-rows-place.result _ _ c.add_row.new.kept
    (search rules) (search rules) (search rules) refl c.in_ok-add_row.ensures

pub returns : goal.returns
returns c = ran_all c.args.rows.now c.args.outcomes.now c.loop-place.place c.loop-place.kept _ c.loop-place.invariant (search rules)
