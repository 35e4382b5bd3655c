use Rattle.std.proofs.Common.{◌≡◌, ◌∙◌, ap, arith, sym, true}
use Rattle.std.proofs.lemmas.Grind.{common_steps}
use Rattle.tuple_index.specs.Places.{has_part, start_of, values_in, ways}
use Rattle.tuple_index.specs.believed.PlanFault.{saturated}
use Rattle.tuple_index.proofs.SliceLemmas.{SliceWithin, slice_within}
use Rattle.tuple_index.proofs.plan.Plan.slice_ranks.Goals as goal

within : (c : goal.After-ways-count) → SliceWithin c.args.self.now c.args.set c.args.slice c.start-start.result c.ways-count.result
within c =
    let plan = c.args.self.now in
    let same = c.kept_members-members.ensures.value in
    let held : c.is_part.result ≡ true = grind (arith, common_steps) in
    slice_within plan c.args.set c.args.slice c.start-start.result c.ways-count.result c.kept_members-members.ensures.kept c.requires.set c.requires.own
    (ap (λ set. has_part set c.args.slice) (sym same) ∙ sym c.is_part.ensures ∙ held)
    (c.start-start.ensures ∙ ap (λ set. saturated (start_of plan set c.args.slice)) same)
    (c.ways-count.ensures ∙ ap (λ set. saturated (ways (values_in plan c.args.slice) set)) same)

pub overflow_cast-result : goal.overflow_cast-result
overflow_cast-result c = omega (arith, (within c).few)

pub overflow_cast-result-2 : goal.overflow_cast-result-2
overflow_cast-result-2 c = omega (arith, (within c).few)

pub returns-clause-count : goal.returns-clause-count
returns-clause-count c = (within c).many

pub returns-clause-start : goal.returns-clause-start
returns-clause-start c part = (within c).first

pub returns-clause-within : goal.returns-clause-within
returns-clause-within c = (within c).within
