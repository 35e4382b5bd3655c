use Rattle.std.proofs.Common.{◌≡◌, ◌-◌, ◌≤◌, length, replicate}
use Rattle.feasibility.specs.Recurring.{unanswered}
use Rattle.feasibility.proofs.answer_table.AnswerTable.new.Given as goal

abbrev pub invariant-loop-alloc : goal.invariant-loop-alloc
invariant-loop-alloc l = record {
  few : length l.list.items ≤ l.places;
  none : l.list.items ≡ replicate (length l.list.items) (unanswered l.count);
}

abbrev pub decreases-loop-alloc : goal.decreases-loop-alloc
decreases-loop-alloc l = l.places - length l.list.items
