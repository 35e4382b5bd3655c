use Rattle.tuple_index.proofs.UnrankLemmas.{held_first, held_here, held_step}
use Rattle.tuple_index.proofs.plan.Plan.slice_holding.Goals as goal

pub loop-q-init : goal.loop-q-init
loop-q-init c =
    held_first c.args.self.now c.args.members.now c.args.rank c.ways-positive.result c.requires.small c.requires.within c.ways-positive.ensures
    c.if-rank-positive.false

pub returns-then-place-count-clause-holds : goal.returns-then-place-count-clause-holds
returns-then-place-count-clause-holds c chosen there =
    held_here c.args.self.now c.args.members.now c.loop-q.q-index c.loop-q.place c.args.rank c.negative_ways-count.result c.loop-q.invariant c.loop-q-test.true
    c.negative_ways-count.ensures c.if-place-count.true chosen (c.negative_holding.ensures.holds chosen there)

pub loop-q-preserved : goal.loop-q-preserved
loop-q-preserved c =
    held_step c.args.self.now c.args.members.now c.loop-q.q-index c.loop-q.place c.args.rank c.negative_ways-count.result c.loop-q.invariant c.loop-q-test.true
    c.negative_ways-count.ensures c.if-place-count.false
