use Rattle.std.proofs.Common.{◌||◌, ap, sym, ◌∙◌}
use Rattle.cov_model.specs.declared.constraint.Term.{Term}
use Rattle.model_findings.specs.believed.Comparisons.{is_always_true, is_constant, is_never_true}
use Rattle.model_findings.proofs.comparing.is_constant.Goals as goal

pub returns-in-ParamIs-clause-is : goal.returns-in-ParamIs-clause-is
returns-in-ParamIs-clause-is c =
    c.is_fixed-in-ParamIs.ensures.is
    ∙ ap (λ (t : Term). is_never_true c.args.model.now t || is_always_true c.args.model.now t) c.in-ParamIs.is
    ∙ sym (ap (is_constant c.args.model.now) c.in-ParamIs.is)
