use Rattle.std.proofs.Common.{subst, sym}
use Rattle.tuple_index.specs.Places.{IsOwnSlice}
use Rattle.tuple_index.specs.Plan.{PlanView}
use Rattle.uncovered_table.proofs.SliceLemmas.{own_slice}
use Rattle.suite_shrink.proofs.LeastLemmas.{part_counted}
use Rattle.suite_shrink.proofs.least.served_in.Goals as goal

pub slice_ranks-first-requires-clause-own : goal.slice_ranks-first-requires-clause-own
slice_ranks-first-requires-clause-own c =
    subst (λ (p : PlanView). IsOwnSlice p c.args.slice) (sym c.requires.plan) (own_slice c.args.model.now c.args.slice c.requires.slice)

pub returns-clause-count : goal.returns-clause-count
returns-clause-count c =
    part_counted c.args.model.now c.args.plan.now c.args.marks.now c.args.slice c.args.set c.base.result c.slice_ranks-first.result.0 c.slice_ranks-first.result.1
    c.count_marked.result c.requires.plan c.assert_invariant.ensures c.requires.slice c.requires.set c.base.ensures c.slice_ranks-first.ensures.count
    c.slice_ranks-first.ensures.start c.slice_ranks-first.ensures.within c.count_marked.ensures.count
