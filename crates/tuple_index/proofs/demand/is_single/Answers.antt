use Rattle.std.proofs.Common.{Bool, ◌≡◌, ◌<◌, length, get_or, subst, ◌∙◌, sym, ap}
use Rattle.cov_model.specs.declared.demand.Group.{Group}
use Rattle.definitions.specs.believed.Demand.{is_among}
use Rattle.tuple_index.proofs.ChoiceLemmas.{any_step}
use Rattle.tuple_index.proofs.demand.is_single.Goals as goal

pub loop-sub-preserved : goal.loop-sub-preserved
loop-sub-preserved c =
    let lists : Group → Bool = λ sub. is_among sub.members c.args.p in
    let same : c.as_slice-sub-items.result.now ≡ c.args.model.now.demand.subs = c.as_slice-sub-items.ensures
    ∙ ap (λ demand. demand.subs) c.demand.ensures.value in
    any_step lists c.args.model.now.demand.subs c.loop-sub.sub-index c.sub-item.result _
    (subst (λ subs. c.loop-sub.sub-index < length subs) same c.loop-sub-test.true)
    (c.sub-item.is ∙ ap (λ subs. get_or subs c.loop-sub.sub-index c.sub-item.result) same)
    (ap (λ members. is_among members c.args.p) (sym c.as_slice.ensures) ∙ sym c.is_listed.ensures ∙ c.if-is_listed.false) c.loop-sub.invariant
