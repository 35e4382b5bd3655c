use Rattle.std.proofs.Common.{◌≡◌, true, take}
use Rattle.std.specs.List.{list_all}
use Rattle.seq_check.specs.EventSets.{is_lower}
use Rattle.seq_check.proofs.places.are_lower.Given as goal

abbrev pub invariant-loop-pair : goal.invariant-loop-pair
invariant-loop-pair l = list_all (is_lower l.places) (take l.pair-index l.pairs) ≡ true
