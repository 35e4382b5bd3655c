use Rattle.std.proofs.Common.{◌≡◌, fold, take, length}
use Rattle.std.specs.List.{flat_map}
use Rattle.seq_check.specs.believed.Orders.{lengthened}
use Rattle.seq_cover.specs.Growing.{IsLeft}
use Rattle.seq_cover.specs.believed.OrderGrowth.{settled}
use Rattle.seq_cover.proofs.grow.Growth.settle_fronts.Given as goal

abbrev pub invariant-loop-front : goal.invariant-loop-front
invariant-loop-front l =
    IsLeft l.events l.self.opened l.self.suite.rows
    × (l.self.suite ≡ fold (settled l.events) l.initial.self.suite (flat_map (lengthened (length l.events.names)) (take l.front-index l.fronts)))
