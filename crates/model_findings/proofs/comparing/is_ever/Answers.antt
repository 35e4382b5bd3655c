use Rattle.std.proofs.Common.{List, ℕ, ap, sym, ◌∙◌}
use Rattle.cov_model.specs.believed.Kleene.{term_params}
use Rattle.model_lint.specs.believed.Tests.{no_values}
use Rattle.model_findings.specs.believed.Comparisons.{is_for_some, is_so}
use Rattle.model_findings.proofs.comparing.is_ever.Goals as goal

pub returns-in-ParamIs-clause-is : goal.returns-in-ParamIs-clause-is
returns-in-ParamIs-clause-is c =
    c.is_for_some_two.ensures.is
    ∙ ap (λ (ps : List ℕ). is_for_some c.args.model.now ps (is_so c.args.model.now c.args.term.now c.args.truth) (no_values c.args.model.now)) (sym (ap term_params c.in-ParamIs.is))
