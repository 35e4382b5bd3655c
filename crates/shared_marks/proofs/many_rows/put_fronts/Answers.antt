use Rattle.std.proofs.Common.{◌∙◌, ap}
use Rattle.shared_marks.specs.OpenSets.{front}
use Rattle.shared_marks.proofs.LineLemmas.{fronts_placed}
use Rattle.shared_marks.proofs.many_rows.put_fronts.Goals as goal

pub put_places-requires-clause-exist : goal.put_places-requires-clause-exist
put_places-requires-clause-exist c =
    (fronts_placed c.args.model.now c.args.plan.now c.args.columns.now.tests c.args.line c.front.result.now c.requires.plan c.assert_invariant.ensures
    c.requires.columns.plain c.requires.line (c.front.ensures ∙ ap front c.members.ensures)).exist

pub put_places-requires-clause-few : goal.put_places-requires-clause-few
put_places-requires-clause-few c =
    (fronts_placed c.args.model.now c.args.plan.now c.args.columns.now.tests c.args.line c.front.result.now c.requires.plan c.assert_invariant.ensures
    c.requires.columns.plain c.requires.line (c.front.ensures ∙ ap front c.members.ensures)).few

pub put_places-requires-clause-some : goal.put_places-requires-clause-some
put_places-requires-clause-some c =
    (fronts_placed c.args.model.now c.args.plan.now c.args.columns.now.tests c.args.line c.front.result.now c.requires.plan c.assert_invariant.ensures
    c.requires.columns.plain c.requires.line (c.front.ensures ∙ ap front c.members.ensures)).some
