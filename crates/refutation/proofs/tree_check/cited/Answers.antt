use Rattle.refutation.proofs.LeafLemmas.{cited_none, cited_at, cited_past}
use Rattle.refutation.proofs.tree_check.cited.Goals as goal

pub returns-then-number-eq0-clause-tuple : goal.returns-then-number-eq0-clause-tuple
returns-then-number-eq0-clause-tuple c m = cited_none m c.args.omissions.now c.args.number c.if-number-eq0.true

pub returns-in-Some-clause-tuple : goal.returns-in-Some-clause-tuple
returns-in-Some-clause-tuple c m =
    let found = c.in-Some.ensures.lookup in
    cited_at m c.args.omissions.now c.args.number c.in-Some.omission.now c.if-number-eq0.false found.3.0 found.1

pub returns-in-None-clause-tuple : goal.returns-in-None-clause-tuple
returns-in-None-clause-tuple c m = cited_past m c.args.omissions.now c.args.number c.if-number-eq0.false c.in-None.ensures.lookup.3
