use Rattle.std.proofs.Common.{◌≡◌, ◌∙◌, ap, sym, subst, Some}
use Rattle.definitions.specs.believed.Search.{plain_cost}
use Rattle.full_search.specs.Questions.{answer_within}
use Rattle.ipog_grow.specs.Asking.{AskerView, IsSoundContext, extends}
use Rattle.ipog_grow.proofs.Asking.{asked}
use Rattle.ipog_grow.proofs.Completed.{none_completed}
use Rattle.ipog_grow.proofs.asker.Asker.complete.Goals as goal

pub returns-in-Yes-clause-asked : goal.returns-in-Yes-clause-asked
returns-in-Yes-clause-asked c =
    (asked c.args.self.now.context c.args.cells.now c.complete.result
    (subst (λ (v : AskerView). IsSoundContext v.context) c.self.view_is c.self.invariant.context) c.requires.grows
    (subst (λ (v : AskerView). c.complete.result ≡ answer_within (extends v.context c.args.cells.now)
    (plain_cost v.context.model v.context.prefs v.context.slice c.args.cells.now) v.context.effort) c.self.view_is c.complete.ensures.answer)).yes
    c.in-Yes.is

pub returns-in-No-clause-asked : goal.returns-in-No-clause-asked
returns-in-No-clause-asked c =
    (asked c.args.self.now.context c.args.cells.now c.complete.result
    (subst (λ (v : AskerView). IsSoundContext v.context) c.self.view_is c.self.invariant.context) c.requires.grows
    (subst (λ (v : AskerView). c.complete.result ≡ answer_within (extends v.context c.args.cells.now)
    (plain_cost v.context.model v.context.prefs v.context.slice c.args.cells.now) v.context.effort) c.self.view_is c.complete.ensures.answer)).no c.in-No.is

pub returns-in-No-clause-completed : goal.returns-in-No-clause-completed
returns-in-No-clause-completed c =
    none_completed c.args.self.now.context c.args.cells.now c.complete.result
    (subst (λ (v : AskerView). IsSoundContext v.context) c.self.view_is c.self.invariant.context) c.requires.grows
    (subst (λ (v : AskerView). c.complete.result ≡ answer_within (extends v.context c.args.cells.now)
    (plain_cost v.context.model v.context.prefs v.context.slice c.args.cells.now) v.context.effort) c.self.view_is c.complete.ensures.answer) c.in-No.is

pub returns-in-Spent-clause-asked : goal.returns-in-Spent-clause-asked
returns-in-Spent-clause-asked c =
    (asked c.args.self.now.context c.args.cells.now c.complete.result
    (subst (λ (v : AskerView). IsSoundContext v.context) c.self.view_is c.self.invariant.context) c.requires.grows
    (subst (λ (v : AskerView). c.complete.result ≡ answer_within (extends v.context c.args.cells.now)
    (plain_cost v.context.model v.context.prefs v.context.slice c.args.cells.now) v.context.effort) c.self.view_is c.complete.ensures.answer)).spent
    c.in-Spent.is
    ∙ ap (λ cells. Some cells) (sym c.copy_from.ensures)
