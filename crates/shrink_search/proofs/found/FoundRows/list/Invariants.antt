use Rattle.std.proofs.Common.{◌≡◌, length}
use Rattle.shrink_search.specs.Fewer.{AreFewerBefore}
use Rattle.shrink_search.proofs.found.FoundRows.list.Given as goal

-- the rows before this number
abbrev pub invariant-loop-number : goal.invariant-loop-number
invariant-loop-number l = record {
  long : length l.room ≡ length l.model.params;
  before : AreFewerBefore l.model l.rows l.number l.fewer.numbers.items l.fewer.rows;
}
