use Rattle.std.proofs.Common.{◌≡◌, sym, ◌∙◌, subst}
use Rattle.std.specs.Prelude.{IfOk}
use Rattle.row_text.proofs.NameSteps.{value_named}
use Rattle.row_text.proofs.model_names.ModelNames.value.Goals as goal

pub returns-in-Some-clause-named : goal.returns-in-Some-clause-named
returns-in-Some-clause-named c =
    sym c.in-Some.ensures
    ∙ value_named c.self.inside.model.now c.args.self.now c.self.inside.params c.self.inside.values.items c.args.p c.args.cell.now c.index-texts.result.now
    c.fold-fold.result c.self.invariant c.self.view_is c.requires c.index-texts.ensures c.fold-fold.ensures.value

pub returns-clause-named : goal.returns-clause-named
returns-clause-named c =
    subst (λ named. IfOk c.number_under.result (λ value. value ≡ named))
    (value_named c.self.inside.model.now c.args.self.now c.self.inside.params c.self.inside.values.items c.args.p c.args.cell.now c.index-texts.result.now
    c.fold-fold.result c.self.invariant c.self.view_is c.requires c.index-texts.ensures c.fold-fold.ensures.value)
    c.number_under.ensures
