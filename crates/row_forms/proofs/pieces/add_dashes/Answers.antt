use Rattle.row_forms.proofs.DashSteps.{dash-step}
use Rattle.row_forms.proofs.pieces.add_dashes.Goals as goal

pub loop-name-preserved : goal.loop-name-preserved
loop-name-preserved c =
    dash-step c.loop-name.into.items c.add.new.into.items _ c.args.names.now c.loop-name._name-index c.loop-name-test.true c.in_ok-add.ensures
    c.loop-name.invariant
