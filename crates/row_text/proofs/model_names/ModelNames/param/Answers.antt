use Rattle.std.proofs.Common.{◌≡◌, ◌∙◌, ap, subst}
use Rattle.std.specs.Prelude.{IfOk}
use Rattle.value_text.specs.believed.Texts.{folded}
use Rattle.definitions.specs.believed.RowFile.{named_param}
use Rattle.row_text.specs.Lookups.{number_of}
use Rattle.row_text.proofs.model_names.ModelNames.param.Goals as goal

pub returns-clause-named : goal.returns-clause-named
returns-clause-named c =
    let model = c.self.inside.model.now in
    let cell = c.args.cell.now in
    subst (λ named. IfOk c.number_under.result (λ param. param ≡ named))
    (ap (λ fold. number_of c.self.inside.params (folded fold cell)) c.fold-fold.ensures.value ∙ c.self.invariant.param_names (folded model.fold cell)
    ∙ ap (λ m. named_param m cell) c.self.view_is)
    c.number_under.ensures
