use Rattle.std.proofs.Common.{sym, ◌∙◌}
use Rattle.model_lint.specs.Seeking.{in_negative, in_slice_of}
use Rattle.model_lint.proofs.Steps.{found_here, none_here}
use Rattle.model_lint.proofs.seeking.Seeker.seek_negative.Goals as goal

pub returns-then-branch-clause-found : goal.returns-then-branch-clause-found
returns-then-branch-clause-found g c =
    found_here (in_slice_of c.args.self.now.model.now c.args.cells.now c.args.p) (in_negative c.args.self.now.model.now c.args.cells.now c.args.p)
    c.loop-v.v c.value_count-count.result c.loop-v-test.true c.loop-v.invariant.2 (sym c.in_ok-seek_value.ensures.found ∙ c.if-branch.true)

pub loop-v-preserved : goal.loop-v-preserved
loop-v-preserved g c = (
  c.loop-v.invariant.0,
  c.in_ok-seek_value.ensures.long ∙ c.loop-v.invariant.1,
  none_here (in_slice_of c.args.self.now.model.now c.args.cells.now c.args.p) (in_negative c.args.self.now.model.now c.args.cells.now c.args.p)
      c.loop-v.v c.value_count-count.result c.loop-v-test.true c.loop-v.invariant.2 (sym c.in_ok-seek_value.ensures.found ∙ c.if-branch.false),
)
