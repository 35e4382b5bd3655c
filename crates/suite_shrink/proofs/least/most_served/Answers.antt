use Rattle.std.proofs.Common.{◌≡◌, ◌≤◌, ◌<◌, [], length, get_or, ◌∙◌, ap, arith}
use Rattle.definitions.specs.believed.Demand.{demanded_sets}
use Rattle.shorter_suites.specs.believed.Bounds.{served_in}
use Rattle.tuple_index.specs.Plan.{PlanView, set_at}
use Rattle.suite_shrink.proofs.LeastLemmas.{greatest_all, greatest_more}
use Rattle.suite_shrink.proofs.least.most_served.Goals as goal

pub loop-set-preserved : goal.loop-set-preserved
loop-set-preserved c =
    let m = c.args.model.now in
    let set = c.loop-set.set in
    let within : set < length (demanded_sets m) =
    omega (arith, c.loop-set-test.true, c.set_count-set-end.ensures.value, ap (λ (p : PlanView). length p.sets) c.requires.plan) in
    record {
      few = omega (arith, c.max-most.ensures, c.loop-set.invariant.few, c.served_in.ensures.few);
      count = λ rows are.
          let f = served_in m rows c.args.slice in
          let own : c.served_in.result ≡ f (get_or (demanded_sets m) set []) =
          c.served_in.ensures.count rows are ∙ ap (λ (p : PlanView). f (set_at p set)) c.requires.plan in
          omega (arith, c.max-most.ensures, c.loop-set.invariant.count rows are, own, greatest_more f (demanded_sets m) set [] within);
    }

pub returns-clause-count : goal.returns-clause-count
returns-clause-count c =
    let m = c.args.model.now in
    let past : length (demanded_sets m) ≤ c.loop-set.set =
    omega (arith, c.loop-set-test.false, c.set_count-set-end.ensures.value, ap (λ (p : PlanView). length p.sets) c.requires.plan) in
    λ rows are. c.loop-set.invariant.count rows are ∙ greatest_all (served_in m rows c.args.slice) (demanded_sets m) c.loop-set.set past
