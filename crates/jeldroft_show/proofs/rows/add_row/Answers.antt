use Rattle.jeldroft_show.proofs.RowLemmas.{as_long}
use Rattle.jeldroft_show.proofs.rows.add_row.Goals as goal

pub push-requires : goal.push-requires
push-requires c = as_long c.args.model.now c.args.rows.now c.as_slice.result.now c.requires.rows c.requires.row c.as_slice.ensures
