use Rattle.std.proofs.Common.{◌∙◌, List, ap}
use Rattle.std.specs.Prelude.{slice_get}
use Rattle.cov_model.specs.believed.Sound.{no_param}
use Rattle.cov_model.specs.declared.parameter.Param.{Param}
use Rattle.finding_words.proofs.Lookups.{missing}
use Rattle.finding_words.proofs.names.param_line.Goals as goal

pub returns-in-None : goal.returns-in-None
returns-in-None c =
    ap (λ (param : Param). param.line) (missing c.args.model.now.params c.args.p no_param
    (c.in-None.ensures.value ∙ ap (λ (params : List Param). slice_get params c.args.p) c.params.ensures.value))
