use Rattle.jeldroft_show.proofs.RowLemmas.{fit_before}
use Rattle.jeldroft_show.proofs.rows.rows_of.Goals as goal

pub add_row-requires-clause-rows : goal.add_row-requires-clause-rows
add_row-requires-clause-rows c = fit_before c.args.model.now c.args.tests.now.rows c.loop-row.row-index c.loop-row.rows c.requires c.loop-row.invariant
