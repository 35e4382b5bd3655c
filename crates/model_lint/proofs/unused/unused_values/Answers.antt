use Rattle.std.proofs.Common.{◌++◌, List, ℕ, ap, sym, ◌∙◌}
use Rattle.model_lint.specs.believed.Tests.{is_unused, values_of}
use Rattle.model_lint.specs.Tests.{unused_in}
use Rattle.model_lint.proofs.Steps.{params_more}
use Rattle.model_lint.proofs.unused.unused_values.Goals as goal

pub loop-p-preserved : goal.loop-p-preserved
loop-p-preserved g c = (
  c.loop-p.invariant.0,
  c.in_ok-add_unused.ensures.room ∙ c.loop-p.invariant.1,
  c.in_ok-add_unused.ensures.asker ∙ c.loop-p.invariant.2,
  c.in_ok-add_unused.ensures.explained,
  c.in_ok-add_unused.ensures.values ∙ ap (λ (front : List (ℕ × ℕ)). front ++ unused_in c.args.model.now c.loop-p.p) c.loop-p.invariant.4
      ∙ sym (params_more (is_unused c.args.model.now) (values_of c.args.model.now) c.loop-p.p),
)
