use Rattle.std.proofs.Common.{◌≡◌, drop}
use Rattle.std.specs.List.{list_any}
use Rattle.definitions.specs.believed.Demand.{is_among}
use Rattle.tuple_index.proofs.demand.is_single.Given as goal

abbrev pub invariant-loop-sub : goal.invariant-loop-sub
invariant-loop-sub l =
    list_any (λ sub. is_among sub.members l.p) (drop l.sub-index l.model.demand.subs) ≡ list_any (λ sub. is_among sub.members l.p) l.model.demand.subs
