use Rattle.std.proofs.Common.{◌≡◌, ◌++◌, ◌∙◌, ℕ, List, ap, map, min, length, sum_by, arith}
use Rattle.std.proofs.lemmas.Grind.{common_steps}
use Rattle.cov_model.specs.declared.demand.Group.{Group}
use Rattle.definitions.specs.believed.Demand.{singles}
use Rattle.tuple_index.specs.Counts.{group_ways, products}
use Rattle.tuple_index.specs.believed.PlanFault.{saturated}
use Rattle.tuple_index.proofs.RowLemmas.{count_is}
use Rattle.tuple_index.proofs.count.count_choices.Goals as goal

pub returns : goal.returns
returns c =
    let m = c.args.model.now in
    let counts : List ℕ = c.push_single_counts.new.into.items in
    let of : List Group → List ℕ = λ groups. map (λ group. saturated (group_ways group)) groups in
    let ones : List ℕ = map (λ p. 1) (singles m) in
    let listed : counts ≡ of m.demand.subs ++ ones =
    c.in_ok-push_single_counts.ensures ∙ ap (λ xs. xs ++ ones)
    (c.in_ok-units.ensures ∙ ap of (c.as_slice.ensures ∙ ap (λ d. d.subs) c.demand-demand.ensures.value)) in
    let least : c.min-taken.result ≡ min (length counts) m.demand.order = grind (arith, common_steps) in
    let multiplied : c.in_ok-unions.unions ≡ saturated (products c.min-taken.result counts) =
    c.in_ok-unions.ensures ∙ ap (λ xs. saturated (products c.min-taken.result xs)) c.deref.ensures.value in
    let subsets : c.in_ok-count_relations.field-0 ≡ saturated (sum_by group_ways m.demand.relations) =
    c.in_ok-count_relations.ensures ∙ ap (λ groups. saturated (sum_by group_ways groups))
    (c.as_slice-2.ensures ∙ ap (λ d. d.relations) c.demand-demand.ensures.value) in
    c.saturating_add.ensures ∙ count_is m counts c.min-taken.result c.in_ok-unions.unions c.in_ok-count_relations.field-0 listed least multiplied subsets
