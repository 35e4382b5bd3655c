use Rattle.std.proofs.Common.{subst, sym}
use Rattle.tuple_index.specs.Kept.{AreBases, IsKept}
use Rattle.tuple_index.proofs.PlanLemmas.{kept_with, sized_is}
use Rattle.tuple_index.proofs.plan.Plan.with_sets.Goals as goal

pub invariant_of-result : goal.invariant_of-result
invariant_of-result c = (
  subst (λ ns. AreBases ns c.in_ok-bases.bases.items) c.deref.ensures.value c.in_ok-bases.ensures,
  subst IsKept (sym (sized_is _ c.args.self c.args.sets c.in_ok-counts.counts.items c.self.view_is c.in_ok-counts.ensures))
      (kept_with c.args.self c.args.sets (subst IsKept c.self.view_is c.self.invariant.1) c.requires.rising c.requires.few c.requires.within),
)

pub returns : goal.returns
returns c = sized_is _ c.args.self c.args.sets c.in_ok-counts.counts.items c.self.view_is c.in_ok-counts.ensures
