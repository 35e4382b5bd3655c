use Rattle.suite_shrink.proofs.ServedLemmas.{serve_from}
use Rattle.suite_shrink.proofs.WithinLemmas.{within_all}
use Rattle.suite_shrink.proofs.served.serve_too.Goals as goal

pub returns : goal.returns
returns c =
    λ within. serve_from c.args.of.now.model.now c.args.given.now c.args.rows.now c.args.marks.now c.in_ok-own.own c.requires.marks c.in_ok-own.ensures
    (within_all c.args.marks.now c.in_ok-own.own (c.are_within.ensures within))
