use Rattle.std.proofs.Common.{◌≡◌, ◌<◌, ◌∙◌, All, ap, length, subst, sym}
use Rattle.std.specs.Prelude.{IfSome}
use Rattle.definitions.specs.believed.Demand.{demanded_sets}
use Rattle.uncovered_table.specs.Kept.{last_column}
use Rattle.uncovered_table.specs.Places.{set_at}
use Rattle.uncovered_table.proofs.PartLemmas.{all_planned, last_known, one_planned}
use Rattle.uncovered_table.proofs.part.SlicePart.last_column.Goals as goal

pub last_member-requires : goal.last_member-requires
last_member-requires c =
    all_planned c.self.inside.of.now c.self.inside.by.now c.members.result.now c.self.invariant.planned
    (subst (λ v. All (λ p. p < length v.model.params) c.members.result.now) (sym c.self.view_is) c.members.ensures.exist)

pub returns-clause-value : goal.returns-clause-value
returns-clause-value c =
    subst (λ v. c.last_member.result ≡ last_column v.model v.slice (set_at v.model c.args.set)) c.self.view_is
    (last_known c.self.inside.of.now c.self.inside.slice c.self.inside.by.now c.args.set c.members.result.now c.last_member.result
    c.self.invariant.planned c.assert_invariant.ensures c.self.invariant.own
    (subst (λ v. c.args.set < length (demanded_sets v.model)) (sym c.self.view_is) c.requires)
    (c.members.ensures.value ∙ ap (λ v. set_at v.model c.args.set) (sym c.self.view_is)) c.last_member.ensures.value)

pub returns-clause-own : goal.returns-clause-own
returns-clause-own c =
    subst (λ v. IfSome c.last_member.result (λ p. p < length v.model.params)) c.self.view_is
    (one_planned c.self.inside.of.now c.self.inside.by.now c.last_member.result c.self.invariant.planned c.last_member.ensures.own)
