use Rattle.std.specs.Prelude.{Ok}
use Rattle.std.proofs.Common.{◌≡◌, Bool, List, true, filter, length, refl, sym, subst, ◌∙◌, arith}
use Rattle.std.proofs.lemmas.Bool.{false_from_ne_true, false≢true}
use Rattle.std.proofs.lemmas.Grind.{common_steps}
use Rattle.definitions.specs.believed.Completion.{is_extendable}
use Rattle.model_lint.specs.Changes.{is_marked}
use Rattle.model_lint.specs.Marks.{IsThinTo}
use Rattle.model_lint.specs.believed.Tests.{rule_numbers}
use Rattle.model_lint.proofs.ChangedModels.{extends_whole}
use Rattle.model_lint.proofs.ThinMarks.{conflict_from}
use Rattle.model_lint.proofs.conflict.conflict_of.Goals as goal

pub thin-requires-clause-enough : goal.thin-requires-clause-enough
thin-requires-clause-enough g c =
    let ended : c.gather.result ≡ Ok true = first_of (cc, grind (arith, common_steps)) in
    let is : c.as_mut_slice-2.result.now ≡ c.gather.new.marks = first_of (cc, grind (arith, common_steps)) in
    let long : length c.gather.new.marks ≡ length c.args.model.now.rules = first_of (cc, grind (arith, common_steps)) in
    subst (λ (list : List Bool). IsThinTo c.args.model.now c.args.slice c.args.cells.now list 0) (sym is)
    (record { long = long; enough = c.gather.ensures.enough ended; needed = λ j within. absurd (omega (arith, within)) })

pub returns-clause-none : goal.returns-clause-none
returns-clause-none g c =
    sym (false_from_ne_true (is_extendable c.args.model.now c.args.slice c.args.cells.now) (λ some.
    false≢true (sym c.in_ok-thin.ensures.thin.enough ∙ extends_whole c.args.model.now (is_marked c.thin.new.marks) c.args.slice c.args.cells.now some)))

pub returns-clause-conflict : goal.returns-clause-conflict
returns-clause-conflict g c =
    let are : c.in_ok-numbers.numbers ≡ filter (is_marked c.thin.new.marks) (rule_numbers c.args.model.now) = first_of (cc, grind (arith, common_steps)) in
    conflict_from c.args.model.now c.args.slice c.args.cells.now c.thin.new.marks (length c.thin.new.marks) c.in_ok-numbers.numbers c.assert_invariant.ensures c.in_ok-thin.ensures.thin refl are
