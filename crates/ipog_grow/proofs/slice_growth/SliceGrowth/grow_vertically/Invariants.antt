use Rattle.std.proofs.Common.{◌≡◌, ℕ, None, get_or, length, IfSome}
use Rattle.uncovered_table.specs.Open.{IsPlaceOf}
use Rattle.ipog_grow.specs.UnfilledRows.{HasUnfilled}
use Rattle.ipog_grow.specs.Growing.{open_tuples}
use Rattle.ipog_grow.proofs.VerticalLemmas.{Downing}
use Rattle.ipog_grow.proofs.slice_growth.SliceGrowth.grow_vertically.Given as goal

-- the open tuples that are left decide
abbrev pub invariant-loop-place : goal.invariant-loop-place
invariant-loop-place l = record {
  context : l.self.asker.context ≡ l.fn.self.asker.context;
  tuple : length l.self.tuple ≡ length l.fn.self.tuple;
  blank : (p : ℕ) → get_or l.self.tuple p None ≡ None;
  room : length l.self.room ≡ length l.fn.self.room;
  unfilled : HasUnfilled l.columns l.column l.count l.self.rows l.unfilled;
  from : IfSome l.from (IsPlaceOf l.self.table);
  downing : Downing l.fn.self.asker.context l.column l.fn.self.table l.self.table l.fn.self.rows l.self.rows l.fn.self.omitted.items l.self.omitted.items
      l.from;
}

abbrev pub decreases-loop-place : goal.decreases-loop-place
decreases-loop-place l = length (open_tuples l.self.table l.column)
