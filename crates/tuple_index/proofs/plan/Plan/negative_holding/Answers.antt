use Rattle.std.proofs.Common.{◌/◌, get_or, ap}
use Rattle.tuple_index.proofs.UnrankLemmas.{negative_at}
use Rattle.tuple_index.proofs.plan.Plan.negative_holding.Goals as goal

pub returns-clause-holds : goal.returns-clause-holds
returns-clause-holds c =
    negative_at c.args.self.now c.args.members.now c.args.q c.args.place c.ways-each.result _ c.requires.small c.requires.within c.ways-each.ensures
    (ap (λ vs. get_or vs (c.args.place / c.ways-each.result) 0) c.negatives.ensures)
