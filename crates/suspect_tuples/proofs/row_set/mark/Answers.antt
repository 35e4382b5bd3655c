use Rattle.std.proofs.Common.{◌/◌, get_or, refl}
use Rattle.suspect_tuples.proofs.RowSetLemmas.{mark_more}
use Rattle.suspect_tuples.proofs.row_set.mark.Goals as goal

pub returns-clause-marks : goal.returns-clause-marks
returns-clause-marks c other =
    mark_more c.args.words.now c.args.at (get_or c.args.words.now (c.args.at / 64) 0) other c.requires refl
