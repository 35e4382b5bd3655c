use Rattle.feasibility.proofs.Paths.{failure_stays}
use Rattle.full_search.proofs.closing.close_tuple.Goals as goal

pub close_failing-requires-clause-shows : goal.close_failing-requires-clause-shows
close_failing-requires-clause-shows c =
    let r = c.args.refuter.now in
    failure_stays r.model r.lists c.args.cells.now c.args.sets.now c.requires.path.fits.as_long c.requires.listed c.requires.path.fits
    (c.requires.ready.why c.if-fails.true)
