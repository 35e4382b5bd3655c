use Rattle.std.proofs.Common.{◌≡◌, take}
use Rattle.row_forms.specs.Seen.{names_seen}
use Rattle.suite_forms.specs.believed.Suites.{param_names}
use Rattle.suite_forms.proofs.suite.param_names.Given as goal

abbrev pub invariant-loop-param : goal.invariant-loop-param
invariant-loop-param l = names_seen l.names.items ≡ take l.param-index (param_names l.model)
