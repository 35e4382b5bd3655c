use Rattle.std.proofs.Common.{◌≡◌, length}
use Rattle.ipog_grow.proofs.HorizontalLemmas.{Crossing}
use Rattle.ipog_grow.proofs.horizontal.grow_horizontally.Given as goal

-- the rows that are left decide
abbrev pub invariant-loop-i : goal.invariant-loop-i
invariant-loop-i g l = record {
  context : l.asker.context ≡ l.fn.asker.context;
  scores : length l.scores ≡ length l.fn.scores;
  room : length l.room ≡ length l.fn.room;
  crossing : Crossing l.fn.asker.context l.column l.fn.table l.table l.fn.rows l.rows l.i;
}
