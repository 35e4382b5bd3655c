use Rattle.std.proofs.Common.{length}
use Rattle.scoring.proofs.GainLemmas.{all_gains}
use Rattle.scoring.proofs.score.score_all.Goals as goal

pub returns : goal.returns
returns g c = all_gains c.args.table.now c.args.cells.now c.args.column (length c.args.scores.now) c.score_values.new.scores c.score_values.auto.scores
    c.score_values.ensures
