use Rattle.std.proofs.Common.{◌≡◌, length}
use Rattle.ipog_grow.proofs.Joining.{Offering}
use Rattle.ipog_grow.proofs.join.join_first.Given as goal

-- the rows from the first candidate on decide
abbrev pub invariant-loop-i : goal.invariant-loop-i
invariant-loop-i l = record {
  context : l.asker.context ≡ l.fn.asker.context;
  rows : l.rows ≡ l.fn.rows;
  room : length l.room ≡ length l.fn.room;
  offering : Offering l.fn.asker.context l.tuple l.fn.rows l.candidates;
}

abbrev pub decreases-loop-i : goal.decreases-loop-i
decreases-loop-i l = length l.candidates
