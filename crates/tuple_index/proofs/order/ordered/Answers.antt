use Rattle.std.proofs.Common.{◌≡◌, List, ℕ, IfOk, map, ◌∙◌, ap, subst}
use Rattle.std.proofs.lemmas.List.Filters.{dedup_is}
use Rattle.definitions.specs.believed.Demand.{in_order}
use Rattle.tuple_index.proofs.OrderLemmas.{ordered_parts}
use Rattle.tuple_index.proofs.order.ordered.Goals as goal

pub returns : goal.returns
returns c =
    let parts = ordered_parts (λ set. set.now) c.in_ok-all.all.items c.sort_unstable.new.self.items c.dedup.new.self.items c.sort_unstable.ensures.permutation
    c.sort_unstable.ensures.sorted (dedup_is _ _ _ c.dedup.ensures.filtered) in
    subst (λ (sets : List (List ℕ)). IfOk c.packed.result (λ all. all ≡ sets))
    (ap (map (λ set. set.now)) c.deref.ensures.value ∙ parts ∙ ap in_order c.in_ok-all.ensures) c.packed.ensures
