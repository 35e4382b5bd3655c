use Rattle.suite_facts.proofs.CountLemmas.{covered_counted}
use Rattle.suite_facts.proofs.counting.count_set.Goals as goal

pub returns : goal.returns
returns c =
    λ m rows same are. covered_counted m c.args.plan.now rows c.args.marks.now c.args.set c.base.result c.size.result c.count_marked.result same c.requires.set
    c.base.ensures c.size.ensures c.count_marked.ensures.count are
