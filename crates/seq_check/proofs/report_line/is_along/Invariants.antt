use Rattle.std.proofs.Common.{◌≡◌, ◌++◌, ℕ, List, drop}
use Rattle.std.specs.List.{list_all}
use Rattle.seq_check.specs.EventSets.{AreOf}
use Rattle.seq_check.specs.believed.Orders.{is_arrow, neighbours, steps}
use Rattle.seq_check.proofs.report_line.is_along.Given as goal

abbrev pub invariant-loop-at : goal.invariant-loop-at
invariant-loop-at l =
    (pairs : List (ℕ × ℕ)) → AreOf l.precedences pairs →
    list_all (is_arrow (steps l.sequence ++ pairs)) (neighbours l.cycle) ≡ list_all (is_arrow (steps l.sequence ++ pairs)) (neighbours (drop l.at l.cycle))
