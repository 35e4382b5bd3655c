use Rattle.std.proofs.Common.{◌≡◌, take}
use Rattle.std.specs.List.{flat_map}
use Rattle.seq_check.specs.believed.Orders.{lengthened}
use Rattle.seq_check.proofs.lists.all_lengthened.Given as goal

abbrev pub invariant-loop-front : goal.invariant-loop-front
invariant-loop-front l = l.longer ≡ flat_map (lengthened l.count) (take l.front-index l.lists)
