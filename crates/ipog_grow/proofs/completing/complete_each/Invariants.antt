use Rattle.std.proofs.Common.{◌≡◌, length}
use Rattle.ipog_grow.proofs.Completed.{Completes}
use Rattle.ipog_grow.proofs.completing.complete_each.Given as goal

abbrev pub invariant-loop-i : goal.invariant-loop-i
invariant-loop-i l = record {
  context : l.asker.context ≡ l.initial.asker.context;
  partial : length l.partial ≡ length l.initial.asker.context.model.params;
  completes : Completes l.initial.asker.context l.initial.rows l.rows l.i l.count l.room;
}
