use Rattle.std.proofs.Common.{◌≡◌, ◌∙◌, ℕ, List, Option, arith, ap, map}
use Rattle.std.proofs.lemmas.Grind.{common_steps}
use Rattle.model_lint.specs.Changes.{is_marked}
use Rattle.model_lint.specs.believed.Tests.{has_test, part, value_alone}
use Rattle.model_lint.proofs.Steps.{ok_also}
use Rattle.model_findings.specs.Without.{is_free_of}
use Rattle.model_findings.proofs.LeftOut.{test_without}
use Rattle.model_findings.proofs.without.passes_without_comparisons.Goals as goal

pub returns : goal.returns
returns c =
    let m = c.args.model.now in
    let marks = c.as_slice.result.now in
    let alone : c.set_cell.new.self ≡ value_alone m (c.args.p, c.args.v) = first_of (cc, grind (arith, common_steps)) in
    ok_also c.has_test_of_marked.result (λ passes is.
    is ∙ ap (λ (cells : List (Option ℕ)). has_test (part m (is_marked marks)) cells) alone
    ∙ test_without m c.args.p marks (value_alone m (c.args.p, c.args.v)) c.assert_invariant.ensures
    (c.as_slice.ensures.value ∙ c.in_ok-marks.ensures ∙ ap (map (is_free_of c.args.p)) c.rules.ensures.value))
    c.has_test_of_marked.ensures
