use Rattle.std.proofs.Common.{sym, ◌+◌}
use Rattle.std.proofs.lemmas.List.{take_rest}
use Rattle.refutation.proofs.ReadingLemmas.{pieces_some, pieces_none}
use Rattle.refutation.proofs.cutting.split_once.Goals as goal

pub returns-in-Some-clause-pieces : goal.returns-in-Some-clause-pieces
returns-in-Some-clause-pieces c =
    rw (take_rest c.args.text.now (c.in-Some.end + 1)) (pieces_some c.args.mark c.args.text.now c.in-Some.end (sym c.in-Some.ensures))

pub returns-in-None-clause-pieces : goal.returns-in-None-clause-pieces
returns-in-None-clause-pieces c = pieces_none c.args.mark c.args.text.now (sym c.in-None.ensures)
