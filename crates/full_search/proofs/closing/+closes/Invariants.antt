use Rattle.std.proofs.Common.{◌≡◌, ◌+◌, ◌*◌}
use Rattle.full_search.specs.Closing.{KeepsRoom}
use Rattle.full_search.specs.Reasons.{Grows}
use Rattle.full_search.specs.Searching.{free_count}
use Rattle.full_search.proofs.PartTrees.{ClosesBelow}
use Rattle.full_search.proofs.closing.+closes.Given as goal

abbrev pub decreases-close : goal.decreases-close
decreases-close l = 3 * free_count l.cells.now + 2

abbrev pub decreases-close_value : goal.decreases-close_value
decreases-close_value l = 3 * free_count l.cells.now + 1

abbrev pub decreases-close_live : goal.decreases-close_live
decreases-close_live l = 3 * free_count l.cells.now

-- the trees of the values before this one were added, and the reason has what they speak of
abbrev pub invariant-close-loop-v : goal.invariant-close-loop-v
invariant-close-loop-v l = record {
  cells : l.cells ≡ l.fn.cells;
  sets : l.sets ≡ l.fn.sets;
  keeps : KeepsRoom l.refuter l.fn.cells l.witness l.initial.below l.below;
  grows : Grows l.fn.cells l.p l.why l.why;
  closes : ClosesBelow l.refuter l.why l.fn.cells l.p l.v l.initial.tokens.items l.tokens.items;
}
