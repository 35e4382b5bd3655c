use Rattle.row_text.proofs.Sending.{Adds-then, Adds-same}
use Rattle.suspect_tuples.proofs.TextSteps.{pairs_parted}
use Rattle.suspect_tuples.proofs.text.put_pairs.Goals as goal

pub returns : goal.returns
returns g c = Adds-same (pairs_parted c.args.pairs.now c.in-len1-up.len_at_least) (Adds-then c.put_pair.ensures c.put_spaced.ensures)
