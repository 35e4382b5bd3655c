use Rattle.std.proofs.Common.{◌≡◌, length, drop}
use Rattle.definitions.specs.believed.Completion.{column_order}
use Rattle.ipog_grow.proofs.Taking.{Taking}
use Rattle.ipog_grow.proofs.slice_growth.SliceGrowth.grow_columns.Given as goal

-- the columns that are left decide
abbrev pub invariant-loop-k : goal.invariant-loop-k
invariant-loop-k g l = record {
  context : l.self.asker.context ≡ l.fn.self.asker.context;
  tuple : length l.self.tuple ≡ length l.fn.self.tuple;
  room : length l.self.room ≡ length l.fn.self.room;
  order : l.order.items ≡ column_order l.fn.model l.fn.slice;
  taking : Taking l.fn.self.asker.context l.order.items (drop l.k l.order.items) l.self.table l.fn.self.rows l.self.rows l.fn.self.omitted.items
      l.self.omitted.items;
}
