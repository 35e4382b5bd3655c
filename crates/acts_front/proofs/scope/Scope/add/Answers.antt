use Rattle.std.proofs.Common.{◌∙◌, ap}
use Rattle.acts_front.specs.believed.ParameterLines.{is_declared}
use Rattle.acts_front.proofs.Scopes.{declares}
use Rattle.acts_front.proofs.scope.Scope.add.Goals as goal

pub add-added-requires : goal.add-added-requires
add-added-requires c =
    declares (λ param. record { name = param.0.now; kind = param.1 }) c.self.inside.fold c.args.name.now c.self.inside.declared.items c.self.inside.names c.self.invariant
    ∙ (ap (λ scope. is_declared scope c.args.name.now) c.self.view_is ∙ c.requires)
