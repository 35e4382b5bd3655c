use Rattle.std.proofs.Common.{◌<◌, ◌∙◌, [], get_or, sym, ap, subst}
use Rattle.cov_model.specs.believed.Rows.{with_value}
use Rattle.definitions.specs.believed.Search.{breaks_a_rule}
use Rattle.feasibility.proofs.NarrowedSets.{count_none}
use Rattle.feasibility.proofs.Nodes.{listed_at}
use Rattle.full_search.specs.Reasons.{GrowsBy}
use Rattle.full_search.proofs.Values.{tries_all, tries_more}
use Rattle.full_search.proofs.searching.refute_stuck.Goals as goal

pub add_dead-requires-clause-value : goal.add_dead-requires-clause-value
add_dead-requires-clause-value c =
    let q = c.stuck_param-q.result in
    let values = c.values_of-v-items.result.now in
    c.assert_invariant.ensures.values.exist q (get_or values c.loop-v.v-index 0)
    (listed_at values (get_or c.args.tree.now.values q []) c.loop-v.v-index c.values_of-v-items.ensures c.loop-v-test.true)

pub add_dead-requires-clause-dead : goal.add_dead-requires-clause-dead
add_dead-requires-clause-dead c =
    let q = c.stuck_param-q.result in
    let values = c.values_of-v-items.result.now in
    let v = get_or values c.loop-v.v-index 0 in
    let listed = listed_at values (get_or c.args.tree.now.values q []) c.loop-v.v-index c.values_of-v-items.ensures c.loop-v-test.true in
    ap (λ cells. breaks_a_rule c.args.tree.now.model (with_value cells q v)) c.loop-v.invariant.cells
    ∙ c.requires.shows.dead q v c.stuck_param-q.ensures.exists (c.assert_invariant.ensures.values.exist q v listed) c.stuck_param-q.ensures.free listed
    (count_none (get_or c.args.sets.now.live q []) v c.stuck_param-q.ensures.unmarked)

pub loop-v-preserved : goal.loop-v-preserved
loop-v-preserved c =
    let q = c.stuck_param-q.result in
    let values = c.values_of-v-items.result.now in
    record {
      cells = c.add_dead.ensures.same ∙ c.loop-v.invariant.cells;
      tries = tries_more c.args.tree.now c.args.cells.now q values c.loop-v.v-index c.loop-v.why c.add_dead.new.why c.loop-v-test.true
          c.loop-v.invariant.tries
          (subst (λ cells. GrowsBy c.args.tree.now cells q (get_or values c.loop-v.v-index 0) c.loop-v.why c.add_dead.new.why) c.loop-v.invariant.cells
          c.add_dead.ensures.refuted);
    }

pub returns-clause-reason : goal.returns-clause-reason
returns-clause-reason c =
    tries_all c.args.tree.now c.args.cells.now c.stuck_param-q.result c.values_of-v-items.result.now c.loop-v.v-index c.loop-v.why
    (subst (λ n. c.stuck_param-q.result < n) (sym c.assert_invariant.ensures.values.as_many) c.stuck_param-q.ensures.exists)
    c.values_of-v-items.ensures c.loop-v-test.false c.loop-v.invariant.tries
