use Rattle.std.proofs.Common.{◌≡◌, map, take}
use Rattle.model_page.specs.believed.Tests.{param_names}
use Rattle.model_page.proofs.tests.param_names.Given as goal

abbrev pub invariant-loop-param : goal.invariant-loop-param
invariant-loop-param l = map (λ name. name.now) l.names.items ≡ take l.param-index (param_names l.model)
