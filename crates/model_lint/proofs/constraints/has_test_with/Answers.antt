use Rattle.std.proofs.Common.{◌≡◌, arith, ap, length, ◌∙◌}
use Rattle.std.proofs.lemmas.Grind.{common_steps}
use Rattle.cov_model.specs.believed.Sound.{ModelView}
use Rattle.model_lint.specs.Changes.{changed, one_changed}
use Rattle.model_lint.specs.believed.Tests.{has_test, no_values}
use Rattle.model_lint.proofs.Steps.{ok_also}
use Rattle.model_lint.proofs.constraints.has_test_with.Goals as goal

pub returns : goal.returns
returns g c =
    let whole : c.in_ok-part.part ≡ changed c.args.model.now (one_changed (length c.args.model.now.rules) c.args.number c.args.change) = first_of (cc, grind (arith, common_steps)) in
    let none : c.in_ok-none.none ≡ no_values c.args.model.now = first_of (cc, grind (arith, common_steps)) in
    ok_also c.seek_test.result (λ found is.
    is ∙ ap (λ (x : ModelView). has_test x c.in_ok-none.none) whole
    ∙ ap (has_test (changed c.args.model.now (one_changed (length c.args.model.now.rules) c.args.number c.args.change))) none)
    c.seek_test.ensures.found
