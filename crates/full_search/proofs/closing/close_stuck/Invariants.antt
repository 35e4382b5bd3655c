use Rattle.std.proofs.Common.{◌≡◌}
use Rattle.full_search.specs.Reasons.{Grows}
use Rattle.full_search.proofs.PartTrees.{ClosesBelow}
use Rattle.full_search.proofs.closing.close_stuck.Given as goal

-- the trees of the values before this one were added, and the reason has what they speak of
abbrev pub invariant-loop-v : goal.invariant-loop-v
invariant-loop-v l = record {
  cells : l.cells ≡ l.fn.cells;
  grows : Grows l.fn.cells l.q l.why l.why;
  closes : ClosesBelow l.refuter l.why l.fn.cells l.q l.v l.initial.tokens.items l.tokens.items;
}
