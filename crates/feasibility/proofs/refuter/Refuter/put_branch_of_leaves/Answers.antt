use Rattle.std.proofs.Common.{◌≡◌, ◌<◌, ◌∷◌, ◌∙◌, [], not, length, map, ap, subst, arith, lt-ltb}
use Rattle.std.specs.Prelude.{nat_lt}
use Rattle.std.specs.List.{range_with_len}
use Rattle.std.proofs.lemmas.Bool.{and_from}
use Rattle.cov_model.specs.believed.Rows.{is_assigned, with_value}
use Rattle.cov_model.specs.believed.Sound.{param_at}
use Rattle.definitions.specs.believed.Search.{breaks_a_rule}
use Rattle.feasibility.specs.Refuting.{Closes}
use Rattle.feasibility.proofs.AddedTrees.{closes_branch, closes_next}
use Rattle.feasibility.proofs.Paths.{unmarked_dead, unmarked_of}
use Rattle.feasibility.proofs.refuter.Refuter.put_branch_of_leaves.Goals as goal

pub param_without_live_value-q-requires-clause-some : goal.param_without_live_value-q-requires-clause-some
param_without_live_value-q-requires-clause-some c =
    unmarked_of c.args.self.now.model c.args.cells.now c.args.sets.now.live c.requires.unbroken c.requires.why.why

pub put_value_leaf-requires-clause-dead : goal.put_value_leaf-requires-clause-dead
put_value_leaf-requires-clause-dead c positive =
    let r = c.args.self.now in
    let q = c.param_without_live_value-q.result in
    let exists : c.loop-v.v < length (param_at r.model.params q).values = omega (arith, c.loop-v-test.true, c.loop-v.invariant.count) in
    ap (λ cells. breaks_a_rule r.model (with_value cells q c.loop-v.v)) c.loop-v.invariant.cells
    ∙ unmarked_dead r c.args.cells.now c.args.sets.now q c.loop-v.v c.assert_invariant.ensures.positive c.requires.path c.requires.why
    c.param_without_live_value-q.ensures.exists exists c.param_without_live_value-q.ensures.free c.param_without_live_value-q.ensures.unmarked positive

pub loop-v-preserved : goal.loop-v-preserved
loop-v-preserved c =
    let r = c.args.self.now in
    let q = c.param_without_live_value-q.result in
    let one = subst (λ cells. Closes r (with_value cells q c.loop-v.v ∷ []) 0 c.loop-v.tokens c.put_value_leaf.new.tokens) c.loop-v.invariant.cells
    c.in_ok-put_value_leaf.ensures.closes in
    record {
      count = c.loop-v.invariant.count;
      cells = c.in_ok-put_value_leaf.ensures.same ∙ c.loop-v.invariant.cells;
      closes = closes_next r (with_value c.args.cells.now q) c.loop-v.v 0 0 c.push.new.self c.loop-v.tokens c.put_value_leaf.new.tokens
          c.loop-v.invariant.closes one;
    }

pub returns-clause-closes : goal.returns-clause-closes
returns-clause-closes c =
    let r = c.args.self.now in
    let q = c.param_without_live_value-q.result in
    let whole : c.loop-v.v ≡ length (param_at r.model.params q).values = omega (arith, c.loop-v-test.false, c.loop-v.invariant.count) in
    closes_branch r c.args.cells.now q 0 c.args.tokens.now c.push.new.self c.loop-v.tokens c.in_ok-push.ensures.ok
    (and_from (nat_lt q (length r.model.params)) (not (is_assigned c.args.cells.now q)) (lt-ltb q (length r.model.params) c.param_without_live_value-q.ensures.exists)
    (ap not c.param_without_live_value-q.ensures.free))
    c.requires.leafless
    (subst (λ n. Closes r (map (with_value c.args.cells.now q) (range_with_len 0 n)) 0 c.push.new.self c.loop-v.tokens) whole c.loop-v.invariant.closes)
