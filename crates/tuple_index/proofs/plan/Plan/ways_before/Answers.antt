use Rattle.tuple_index.proofs.LoopLemmas.{before_here, before_end}
use Rattle.tuple_index.proofs.plan.Plan.ways_before.Goals as goal

pub returns-then-p-q : goal.returns-then-p-q
returns-then-p-q c =
    before_here c.args.self.now c.args.members.now c.args.members.now c.args.q c.loop-p.p-index c.loop-p.count _ c.loop-p-test.true c.if-p-q.true
    c.loop-p.invariant.0 c.loop-p.invariant.1

pub returns : goal.returns
returns c =
    before_end c.args.self.now c.args.members.now c.args.members.now c.args.q c.loop-p.p-index c.loop-p.count _ c.loop-p-test.false c.loop-p.invariant.0
    c.loop-p.invariant.1
