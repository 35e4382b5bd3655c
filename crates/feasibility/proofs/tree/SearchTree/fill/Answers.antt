use Rattle.std.proofs.Common.{◌+◌, sym, subst, arith}
use Rattle.feasibility.proofs.Nodes.{FilledTo, filled_more, filled_all}
use Rattle.feasibility.proofs.tree.SearchTree.fill.Goals as goal

pub loop-p-preserved : goal.loop-p-preserved
loop-p-preserved c = (
  c.loop-p.invariant.0,
  subst (λ cells. FilledTo c.args.self.now.values c.args.cells.now cells (c.loop-p.p + 1)) (sym c.fill_cell.ensures)
      (filled_more c.args.self.now.values c.args.cells.now c.loop-p.cells c.loop-p.p (omega arith) (omega (arith, c.assert_invariant.ensures.values.as_many))
      c.loop-p.invariant.1),
)

pub returns : goal.returns
returns c = filled_all c.args.self.now.values c.args.cells.now c.loop-p.cells c.loop-p.p (omega arith) c.loop-p.invariant.1
