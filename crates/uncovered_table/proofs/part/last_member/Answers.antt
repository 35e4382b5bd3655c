use Rattle.std.proofs.Common.{length, refl}
use Rattle.tuple_index.specs.Places.{values_in}
use Rattle.uncovered_table.proofs.LoopLemmas.{last_end, last_more}
use Rattle.uncovered_table.proofs.part.last_member.Goals as goal

pub loop-p-preserved : goal.loop-p-preserved
loop-p-preserved c = record {
  own = c.later.ensures.own;
  so_far = last_more (λ r. length (values_in c.args.plan.now c.args.slice r)) c.args.members.now c.loop-p.p-index _ c.later.result c.loop-p.last _
      c.loop-p-test.true refl c.later.ensures.value c.loop-p.invariant.so_far;
}

pub returns-clause-value : goal.returns-clause-value
returns-clause-value c =
    last_end (λ r. length (values_in c.args.plan.now c.args.slice r)) c.args.members.now c.loop-p.p-index c.loop-p.last _ c.loop-p-test.false
    c.loop-p.invariant.so_far

pub returns-clause-own : goal.returns-clause-own
returns-clause-own c = c.loop-p.invariant.own
