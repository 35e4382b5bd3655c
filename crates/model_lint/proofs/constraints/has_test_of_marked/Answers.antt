use Rattle.std.proofs.Common.{◌≡◌, arith, ap, map, ◌∙◌}
use Rattle.std.proofs.lemmas.Grind.{common_steps}
use Rattle.cov_model.specs.believed.Sound.{ModelView}
use Rattle.model_lint.specs.Changes.{changed, kept_alone}
use Rattle.model_lint.specs.believed.Tests.{has_test}
use Rattle.model_lint.proofs.ChangedModels.{has_test_kept}
use Rattle.model_lint.proofs.Steps.{ok_also}
use Rattle.model_lint.proofs.constraints.has_test_of_marked.Goals as goal

pub returns : goal.returns
returns g c =
    let whole : c.in_ok-part.part ≡ changed c.args.model.now (map kept_alone c.args.marks.now) = first_of (cc, grind (arith, common_steps)) in
    ok_also c.seek_test.result (λ found is.
    is ∙ ap (λ (x : ModelView). has_test x c.args.cells.now) whole ∙ has_test_kept c.args.model.now c.args.marks.now c.args.cells.now)
    c.seek_test.ensures.found
