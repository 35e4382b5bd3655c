use Rattle.std.proofs.Common.{◌<◌, length, arith, ap}
use Rattle.tuple_index.specs.Plan.{PlanView}
use Rattle.suite_facts.proofs.CountLemmas.{coverage_all, coverage_step}
use Rattle.suite_facts.proofs.coverage.count_sets.Goals as goal

pub loop-set-preserved : goal.loop-set-preserved
loop-set-preserved c =
    let within : c.loop-set.set < length c.args.plan.now.sets = omega (arith, c.loop-set-test.true, c.set_count-set-end.ensures.value) in
    record {
      few = omega (arith, c.loop-set.invariant.few, ap (λ (k : _). k.covered) c.add.ensures);
      counted = λ m rows same are.
          coverage_step m c.args.plan.now rows c.loop-set.set c.count_set.result c.loop-set.coverage c.add.new.self same within (c.count_set.ensures m rows same are)
          c.add.ensures (c.loop-set.invariant.counted m rows same are);
    }

pub returns : goal.returns
returns c = λ m rows same are.
    coverage_all m rows c.loop-set.set c.loop-set.coverage
    (omega (arith, c.loop-set-test.false, c.loop-set.auto.set-end, c.set_count-set-end.ensures.value, ap (λ (p : PlanView). length p.sets) same))
    (c.loop-set.invariant.counted m rows same are)
