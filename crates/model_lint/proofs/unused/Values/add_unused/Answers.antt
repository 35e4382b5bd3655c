use Rattle.std.proofs.Common.{map, ◌∙◌}
use Rattle.model_lint.specs.Unused.{value_of}
use Rattle.model_lint.proofs.Steps.{next_value}
use Rattle.model_lint.proofs.unused.Values.add_unused.Goals as goal

pub loop-v-preserved : goal.loop-v-preserved
loop-v-preserved g c = (
  c.loop-v.invariant.0,
  c.in_ok-add_value.ensures.room ∙ c.loop-v.invariant.1,
  c.in_ok-add_value.ensures.asker ∙ c.loop-v.invariant.2,
  c.in_ok-add_value.ensures.explained,
  next_value c.args.self.now.model.now c.args.p c.loop-v.v (map value_of c.args.list.now) (map value_of c.loop-v.list) (map value_of c.add_value.new.list) c.loop-v.invariant.4
      c.in_ok-add_value.ensures.values,
)
