use Rattle.std.proofs.Common.{◌<◌, length, subst, sym}
use Rattle.definitions.specs.believed.Demand.{demanded_sets}
use Rattle.tuple_index.specs.Places.{IsOwnSlice}
use Rattle.uncovered_table.proofs.PartLemmas.{RanksKnown, ranks_known}
use Rattle.uncovered_table.proofs.SliceLemmas.{own_slice}
use Rattle.uncovered_table.proofs.part.SlicePart.ranks.Goals as goal

pub slice_ranks-requires-clause-own : goal.slice_ranks-requires-clause-own
slice_ranks-requires-clause-own c =
    subst (λ p. IsOwnSlice p c.self.inside.slice) (sym c.self.invariant.planned) (own_slice c.self.inside.of.now c.self.inside.slice c.self.invariant.own)

known : (c : goal.After-slice_ranks) → RanksKnown c.args.self.now.model c.args.self.now.slice c.args.set c.slice_ranks.result.0 c.slice_ranks.result.1
known c =
    subst (λ v. RanksKnown v.model v.slice c.args.set c.slice_ranks.result.0 c.slice_ranks.result.1) c.self.view_is
    (ranks_known c.self.inside.of.now c.self.inside.slice c.self.inside.by.now c.args.set c.slice_ranks.result.0 c.slice_ranks.result.1
    c.self.invariant.planned c.assert_invariant.ensures c.self.invariant.own
    (subst (λ v. c.args.set < length (demanded_sets v.model)) (sym c.self.view_is) c.requires) c.slice_ranks.ensures.count c.slice_ranks.ensures.start)

pub returns-clause-count : goal.returns-clause-count
returns-clause-count c = (known c).many

pub returns-clause-start : goal.returns-clause-start
returns-clause-start c = (known c).start
