use Rattle.std.proofs.Common.{[], ◌∷◌, length, ◌∙◌, ap}
use Rattle.std.proofs.lemmas.List.{map-append}
use Rattle.std.proofs.lemmas.Result.{on_ok_weaker}
use Rattle.cov_model.specs.believed.Tuples.{cells_of}
use Rattle.feasibility.specs.Refuting.{earlier_tuples}
use Rattle.refutation.specs.declared.omissions.Omission.{Omission}
use Rattle.full_search.specs.Questions.{QuestionsView}
use Rattle.ipog_grow.specs.Suites.{omitted_cells}
use Rattle.ipog_grow.proofs.Refuting.{omitted-unserved}
use Rattle.ipog_grow.proofs.Trees.{omissions-push}
use Rattle.ipog_grow.proofs.finish.push_omission.Goals as goal

pub returns-clause-tuples : goal.returns-clause-tuples
returns-clause-tuples c =
    let omission : Omission = record { tuple = c.args.tuple; tree = c.in_ok-tree.tree } in
    on_ok_weaker c.push.result
    (λ put.
    ap (earlier_tuples c.args.asker.now.context.model) put
    ∙ map-append (omitted_cells (length c.args.asker.now.context.model.params)) c.args.into.now.omissions (omission ∷ [])) c.push.ensures.ok

pub returns-clause-omissions : goal.returns-clause-omissions
returns-clause-omissions c =
    let context : QuestionsView = c.args.asker.now.context in
    let omission : Omission = record { tuple = c.args.tuple; tree = c.in_ok-tree.tree } in
    let omitted = c.requires.omitted.omitted in
    on_ok_weaker c.push.result
    (λ put.
    omissions-push context.model context.prefs context.effort c.args.proof c.args.into.now c.push.new.self omission c.requires.earlier put
    c.requires.omitted.own omitted.grows.of.fits
    (omitted-unserved context (cells_of (length context.model.params) c.args.tuple) c.assert_invariant.ensures.context omitted)
    c.in_ok-tree.ensures.tree) c.push.ensures.ok
