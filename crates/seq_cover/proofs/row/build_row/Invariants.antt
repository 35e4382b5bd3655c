use Rattle.std.proofs.Common.{◌≡◌, ℕ, ◌-◌, [], List, not}
use Rattle.seq_check.specs.EventSets.{AreBack, Tells}
use Rattle.seq_check.specs.believed.Orders.{is_had}
use Rattle.seq_cover.specs.Building.{ExistBelow, IsBuilt}
use Rattle.seq_cover.specs.believed.OrderGrowth.{built_from}
use Rattle.seq_cover.proofs.row.build_row.Given as goal

abbrev pub invariant-loop-turn : goal.invariant-loop-turn
invariant-loop-turn l =
    IsBuilt l.opened l.count l.turn l.row l.placed l.gains.items
    × ((pairs : List (ℕ × ℕ)) (rows : List (List ℕ)) → AreBack l.back pairs → ExistBelow 64 pairs → Tells l.opened l.count (λ s. not (is_had rows s)) →
    built_from l.count l.len pairs rows l.count [] ≡ built_from l.count l.len pairs rows (l.count - l.turn) l.row)
