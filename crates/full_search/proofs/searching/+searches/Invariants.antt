use Rattle.std.proofs.Common.{◌≡◌, ◌+◌, ◌*◌, length, take}
use Rattle.feasibility.specs.Tree.{constrained_at}
use Rattle.full_search.proofs.Told.{Branches}
use Rattle.full_search.proofs.searching.+searches.Given as goal

abbrev pub decreases-branch : goal.decreases-branch
decreases-branch l = 4 * length l.whys.now + 1

abbrev pub decreases-enter : goal.decreases-enter
decreases-enter l = 4 * length l.whys.now + 3

abbrev pub decreases-search : goal.decreases-search
decreases-search l = 4 * length l.whys.now + 2

abbrev pub decreases-try_value : goal.decreases-try_value
decreases-try_value l = 4 * length l.below.now + 4

-- the witness's value and those before this one are refuted
abbrev pub invariant-branch-loop-v : goal.invariant-branch-loop-v
invariant-branch-loop-v l = record {
  cells : l.cells ≡ l.fn.cells;
  sets : l.sets ≡ l.fn.sets;
  branches : Branches l.tree l.fn.cells (constrained_at l.tree.model l.i) l.at_hand (take l.v-index l.v-items) l.fn.whys l.witness l.why l.below;
}
