use Rattle.std.proofs.Common.{◌≡◌, drop}
use Rattle.std.specs.List.{list_all}
use Rattle.acts_front.specs.believed.ParameterLines.{is_declared}
use Rattle.acts_front.proofs.scope.Scope.declares_all.Given as goal

abbrev pub invariant-loop-name : goal.invariant-loop-name
invariant-loop-name l = list_all (λ name. is_declared l.self name.now) l.names ≡ list_all (λ name. is_declared l.self name.now) (drop l.name-index l.names)
