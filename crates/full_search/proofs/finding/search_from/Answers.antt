use Rattle.full_search.proofs.Starting.{started_fits}
use Rattle.full_search.proofs.finding.search_from.Goals as goal

pub start-requires-clause-fits : goal.start-requires-clause-fits
start-requires-clause-fits c = started_fits c.args.tree.now c.args.cells.now c.assert_invariant.ensures.values c.requires.listed
