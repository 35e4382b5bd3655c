use Rattle.jeldroft_show.proofs.RowLemmas.{fit_all}
use Rattle.jeldroft_show.proofs.rows.rows_text.Goals as goal

pub suite_text-requires : goal.suite_text-requires
suite_text-requires c = fit_all c.args.model.now c.args.tests.now.rows c.in_ok-rows.rows c.requires c.in_ok-rows.ensures
