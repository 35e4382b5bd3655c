use Rattle.std.proofs.Common.{◌-◌, ◌+◌, ◌||◌, Bool, ap, sym, ◌∙◌}
use Rattle.std.specs.List.{list_any, range_with_len}
use Rattle.model_lint.specs.Seeking.{in_negative}
use Rattle.model_lint.proofs.Steps.{any_step}
use Rattle.model_lint.proofs.seeking.Seeker.seek_negatives.Goals as goal

pub loop-p-preserved : goal.loop-p-preserved
loop-p-preserved g c = (
  c.loop-p.invariant.0,
  c.in_ok-seek_negative.ensures.long ∙ c.loop-p.invariant.1,
  c.loop-p.invariant.2
      ∙ any_step (in_negative c.args.self.now.model.now c.args.cells.now) c.loop-p.p c.len-count.result c.loop-p-test.true
      ∙ ap (λ (b : Bool). b || list_any (in_negative c.args.self.now.model.now c.args.cells.now) (range_with_len (c.loop-p.p + 1) (c.len-count.result - (c.loop-p.p + 1))))
      (sym c.in_ok-seek_negative.ensures.found ∙ c.if-branch.false),
)
