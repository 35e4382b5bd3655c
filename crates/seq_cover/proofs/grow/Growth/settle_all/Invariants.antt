use Rattle.std.proofs.Common.{◌≡◌, fold}
use Rattle.seq_check.specs.believed.Orders.{lengthened}
use Rattle.seq_cover.specs.Growing.{IsLeft}
use Rattle.seq_cover.specs.believed.OrderGrowth.{settled}
use Rattle.seq_cover.proofs.grow.Growth.settle_all.Given as goal

abbrev pub invariant-loop-last : goal.invariant-loop-last
invariant-loop-last l = IsLeft l.events l.self.opened l.self.suite.rows × (l.self.suite ≡ fold (settled l.events) l.initial.self.suite (lengthened l.last-counter l.front))
