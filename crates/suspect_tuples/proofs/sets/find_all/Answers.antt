use Rattle.std.proofs.Common.{◌≡◌, ◌+◌, ◌++◌, [], map, ap, sym, ◌∙◌, arith}
use Rattle.std.specs.List.{flat_map, range_with_len}
use Rattle.cov_model.specs.believed.Valid.{param_numbers}
use Rattle.cov_model.specs.declared.demand.Demand.{Demand}
use Rattle.definitions.specs.believed.Demand.{choose}
use Rattle.suspect_tuples.specs.Edges.{edges_behind, tuples_behind}
use Rattle.suspect_tuples.specs.believed.Suspects.{suspect_sets, tuples_on}
use Rattle.suspect_tuples.specs.Told.{found_seen}
use Rattle.suspect_tuples.proofs.EdgeLemmas.{edges_are_smallest, edges_of_none}
use Rattle.suspect_tuples.proofs.SetLemmas.{no_items}
use Rattle.suspect_tuples.proofs.WalkLemmas.{size_step}
use Rattle.suspect_tuples.proofs.sets.find_all.Goals as goal

pub returns-then-len-eq0 : goal.returns-then-len-eq0
returns-then-len-eq0 c =
    let m = c.args.model.now in
    let passing = c.args.passing.now in
    let tuples = flat_map (tuples_on m) (suspect_sets m) in
    let none = no_items c.args.failing.now (omega (arith, c.if-len-eq0.true, c.len.ensures)) in
    ap (map found_seen) c.new-found.ensures ∙ sym (edges_of_none passing [] tuples) ∙ ap (λ failing. edges_behind passing failing [] tuples) (sym none)
    ∙ edges_are_smallest passing c.args.failing.now tuples

pub loop-fewer-preserved : goal.loop-fewer-preserved
loop-fewer-preserved c =
    let m = c.args.model.now in
    let failing = c.args.failing.now in
    let set = c.loop-fewer.set.items in
    let fewer = c.loop-fewer.fewer in
    record {
      found = size_step m c.args.passing.now failing set fewer (map found_seen c.loop-fewer.found) (map found_seen c.add_sets.new.found)
          c.loop-fewer.invariant.found c.loop-fewer.invariant.set
          (c.in_ok-add_sets.ensures.found
          ∙ ap (λ passing. map found_seen c.loop-fewer.found ++ edges_behind passing failing [] (tuples_behind m set (choose (fewer + 1) (param_numbers m)))) c.in_ok-bits.ensures);
      set = c.in_ok-add_sets.ensures.set ∙ c.loop-fewer.invariant.set;
    }

pub returns : goal.returns
returns c =
    let m = c.args.model.now in
    let whole : c.loop-fewer.fewer ≡ m.demand.order = omega (arith, c.loop-fewer-test.false, c.loop-fewer.auto.fewer-end, ap (λ (demand : Demand). demand.order) c.demand.ensures.value) in
    c.loop-fewer.invariant.found
    ∙ ap (λ n. edges_behind c.args.passing.now c.args.failing.now [] (flat_map (tuples_on m) (flat_map (λ k. choose k (param_numbers m)) (range_with_len 1 n)))) whole
    ∙ edges_are_smallest c.args.passing.now c.args.failing.now (flat_map (tuples_on m) (suspect_sets m))
