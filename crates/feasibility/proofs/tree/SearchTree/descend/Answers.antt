use Rattle.std.proofs.Common.{◌≡◌, ◌-◌, ◌+◌, ◌∙◌, true, refl, ap, subst, arith}
use Rattle.definitions.specs.believed.Search.{constrained_params}
use Rattle.live_sets.proofs.TrailLemmas.{since_more, since_self}
use Rattle.feasibility.specs.Descent.{ComesTo}
use Rattle.feasibility.specs.Tree.{constrained_from}
use Rattle.feasibility.proofs.Descending.{comes_on, comes_self, leaf_found, leaf_path}
use Rattle.feasibility.proofs.tree.SearchTree.descend.Goals as goal

pub loop-i-init : goal.loop-i-init
loop-i-init c = record {
  node = c.requires.node;
  some = omega arith;
  comes = comes_self c.args.self.now (constrained_params c.args.self.now.model) c.args.cells.now;
  since = since_self c.args.sets.now;
  long = refl;
}

pub descend_at-requires-clause-node : goal.descend_at-requires-clause-node
descend_at-requires-clause-node c = c.loop-i.invariant.node

pub returns-in_err-nodes-clause-since : goal.returns-in_err-nodes-clause-since
returns-in_err-nodes-clause-since c = since_more c.args.sets.now c.loop-i.sets c.descend_at.new.sets c.loop-i.invariant.since c.descend_at.ensures.since

pub returns-in_err-nodes-clause-long : goal.returns-in_err-nodes-clause-long
returns-in_err-nodes-clause-long c = c.descend_at.ensures.long ∙ c.loop-i.invariant.long

pub returns-in_err-count-clause-since : goal.returns-in_err-count-clause-since
returns-in_err-count-clause-since c = since_more c.args.sets.now c.loop-i.sets c.descend_at.new.sets c.loop-i.invariant.since c.descend_at.ensures.since

pub loop-i-preserved : goal.loop-i-preserved
loop-i-preserved c =
    let m = c.args.self.now.model in
    let sum : c.in_ok-count.count ≡ c.loop-i.count + c.in_ok-nodes.nodes = omega (arith, c.in_ok-count.ensures) in
    let less : (c.loop-i.count - 1) + c.in_ok-nodes.nodes ≡ c.in_ok-count.count - 1 = omega (arith, sum, c.loop-i.invariant.some) in
    record {
      node = c.in_ok-nodes.ensures.node;
      some = omega (arith, sum, c.loop-i.invariant.some);
      comes = subst (ComesTo c.args.self.now (constrained_params m) (constrained_from m (c.loop-i.i + 1)) c.args.cells.now c.descend_at.new.cells) less
          (comes_on c.args.self.now (constrained_params m) (constrained_from m c.loop-i.i) (constrained_from m (c.loop-i.i + 1)) c.args.cells.now
          c.loop-i.cells c.descend_at.new.cells (c.loop-i.count - 1) c.in_ok-nodes.nodes c.loop-i.invariant.comes c.in_ok-nodes.ensures.comes);
      since = since_more c.args.sets.now c.loop-i.sets c.descend_at.new.sets c.loop-i.invariant.since c.descend_at.ensures.since;
      long = c.descend_at.ensures.long ∙ c.loop-i.invariant.long;
    }

pub returns-clause-found : goal.returns-clause-found
returns-clause-found c =
    leaf_found c.args.self.now c.loop-i.i (c.loop-i.count - 1) c.args.cells.now c.loop-i.cells (omega arith) c.loop-i.invariant.node.node
    c.loop-i.invariant.comes
    ∙ ap (λ n. record { found = true; cost = n }) (omega (arith, c.loop-i.invariant.some))

pub returns-clause-path : goal.returns-clause-path
returns-clause-path c =
    leaf_path c.args.self.now c.loop-i.i (c.loop-i.count - 1) c.args.cells.now c.loop-i.cells (omega arith) c.loop-i.invariant.node.node
    c.loop-i.invariant.comes

pub returns-clause-since : goal.returns-clause-since
returns-clause-since c = c.loop-i.invariant.since

pub returns-clause-long : goal.returns-clause-long
returns-clause-long c = c.loop-i.invariant.long
