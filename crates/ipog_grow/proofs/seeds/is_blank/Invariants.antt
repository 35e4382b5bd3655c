use Rattle.std.proofs.Common.{◌≡◌, false, is_some, length, take}
use Rattle.std.specs.List.{list_any}
use Rattle.ipog_grow.proofs.seeds.is_blank.Given as goal

-- no cell before this place has a value
abbrev pub invariant-loop-p : goal.invariant-loop-p
invariant-loop-p l = (l.count ≡ length l.cells) × (list_any is_some (take l.p l.cells) ≡ false)
