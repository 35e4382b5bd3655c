use Rattle.std.proofs.Common.{◌+◌, ◌∙◌, sym, subst, arith}
use Rattle.live_sets.proofs.TrailLemmas.{since_self, since_more}
use Rattle.full_search.specs.Completing.{IsSettled}
use Rattle.full_search.proofs.Settling.{settled_none, settled_then}
use Rattle.full_search.proofs.completing.settle_each.Goals as goal

pub loop-i-init : goal.loop-i-init
loop-i-init c = record {
  count = c.constrained_len-count.ensures;
  settled = settled_none c.args.tree.now c.args.cells.now;
  row = c.requires.row;
  since = since_self c.args.sets.now;
  saved = c.requires.saved;
  room = c.requires.room;
}

pub settle-requires-clause-given : goal.settle-requires-clause-given
settle-requires-clause-given c = c.loop-i.invariant.settled.given

pub loop-i-preserved : goal.loop-i-preserved
loop-i-preserved c = record {
  count = c.loop-i.invariant.count;
  settled = settled_then c.args.tree.now c.loop-i.i (c.loop-i.i + 1) c.args.cells.now c.loop-i.cells c.settle.new.cells c.loop-i.invariant.settled c.settle.ensures.settled;
  row = c.settle.ensures.row;
  since = since_more c.args.sets.now c.loop-i.sets c.settle.new.sets c.loop-i.invariant.since c.settle.ensures.since;
  saved = c.settle.ensures.saved ∙ c.loop-i.invariant.saved ∙ c.loop-i.invariant.row.at.listed.long ∙ sym c.settle.ensures.row.at.listed.long;
  room = c.settle.ensures.room;
}

pub returns-clause-settled : goal.returns-clause-settled
returns-clause-settled c =
    subst (λ n. IsSettled c.args.tree.now n c.args.cells.now c.loop-i.cells) (omega (arith, c.loop-i.invariant.count)) c.loop-i.invariant.settled
