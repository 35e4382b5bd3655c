use Rattle.std.proofs.Common.{◌-◌}
use Rattle.tuple_index.specs.Places.{values_in}
use Rattle.tuple_index.proofs.UnrankLemmas.{digit_of, put_step}
use Rattle.tuple_index.proofs.plan.Plan.put_values.Goals as goal

pub nonzero_rem-rest : goal.nonzero_rem-rest
nonzero_rem-rest c =
    (digit_of (values_in c.args.self.now c.args.slice) c.args.members.now c.loop-i.into c.loop-i.i c.loop-i.rest c.args.place c.radix-count.result
    c.loop-i.invariant c.loop-i-test.true c.loop-i.auto.i c.radix-count.ensures).some

pub value_at-requires-clause-within : goal.value_at-requires-clause-within
value_at-requires-clause-within c =
    (digit_of (values_in c.args.self.now c.args.slice) c.args.members.now c.loop-i.into c.loop-i.i c.loop-i.rest c.args.place c.radix-count.result
    c.loop-i.invariant c.loop-i-test.true c.loop-i.auto.i c.radix-count.ensures).inside

pub loop-i-preserved : goal.loop-i-preserved
loop-i-preserved c =
    put_step (values_in c.args.self.now c.args.slice) c.args.members.now c.loop-i.into (c.loop-i.i - 1) c.loop-i.rest c.args.place c.radix-count.result
    c.value_at.result
    (digit_of (values_in c.args.self.now c.args.slice) c.args.members.now c.loop-i.into c.loop-i.i c.loop-i.rest c.args.place c.radix-count.result
    c.loop-i.invariant c.loop-i-test.true c.loop-i.auto.i c.radix-count.ensures) c.radix-count.ensures c.value_at.ensures
