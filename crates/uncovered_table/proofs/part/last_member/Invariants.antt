use Rattle.std.proofs.Common.{◌≡◌, ◌<◌, drop, length, IfSome}
use Rattle.tuple_index.specs.Places.{values_in}
use Rattle.uncovered_table.specs.Lasts.{lowest, with_last}
use Rattle.uncovered_table.proofs.part.last_member.Given as goal

abbrev pub invariant-loop-p : goal.invariant-loop-p
invariant-loop-p l = record {
  own : IfSome l.last (λ q. q < length l.plan.positives);
  so_far : lowest (λ r. length (values_in l.plan l.slice r)) (with_last l.last (drop l.p-index l.members))
      ≡ lowest (λ r. length (values_in l.plan l.slice r)) l.members;
}
