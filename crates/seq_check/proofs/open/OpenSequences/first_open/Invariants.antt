use Rattle.std.proofs.Common.{◌≡◌, List, ℕ, Bool, None, take}
use Rattle.std.specs.List.{find, flat_map}
use Rattle.seq_check.specs.EventSets.{Tells}
use Rattle.seq_check.specs.believed.Orders.{lengthened}
use Rattle.seq_check.proofs.open.OpenSequences.first_open.Given as goal

abbrev pub invariant-loop-front : goal.invariant-loop-front
invariant-loop-front l = (test : List ℕ → Bool) → Tells l.self l.count test → find test (flat_map (lengthened l.count) (take l.front-index l.front-items)) ≡ None
