use Rattle.std.proofs.Common.{◌∙◌, sym, ap, Some, ℕ, List, Bor}
use Rattle.std.proofs.Math.ListN.{get_or-map}
use Rattle.acts_front.specs.believed.ParameterLines.{Declared, kind_named}
use Rattle.acts_front.specs.declared.kind.Kind.{Kind}
use Rattle.acts_front.proofs.Scopes.{kind_at, kind_nowhere}
use Rattle.acts_front.proofs.scope.Scope.kind.Goals as goal

declared : Bor (List ℕ) × Kind → Declared
declared param = record { name = param.0.now; kind = param.1 }

pub returns-in-Some : goal.returns-in-Some
unfolding declared
returns-in-Some c =
    let here = get_or-map declared c.self.inside.declared.items c.in-Some.place c.index.result.now ∙ ap declared (sym c.index.ensures) in
    sym
    (ap (λ scope. kind_named scope c.args.name.now) (sym c.self.view_is)
    ∙ kind_at declared c.self.inside.fold c.args.name.now c.self.inside.declared.items c.self.inside.names c.self.invariant
    (declared c.index.result.now) c.in-Some.place (sym c.in_ok-place.ensures.value ∙ c.in-Some.is)
    ∙ ap (λ (param : Declared). Some param.kind) here)

pub returns-in-None : goal.returns-in-None
returns-in-None c =
    sym (kind_nowhere (λ param. record { name = param.0.now; kind = param.1 }) c.self.inside.fold c.args.name.now
    c.self.inside.declared.items c.self.inside.names c.self.invariant (sym c.in_ok-place.ensures.value ∙ c.in-None.is))
    ∙ ap (λ scope. kind_named scope c.args.name.now) c.self.view_is
