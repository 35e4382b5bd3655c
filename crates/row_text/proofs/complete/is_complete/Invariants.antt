use Rattle.std.proofs.Common.{◌≡◌, true, is_some, take}
use Rattle.std.specs.List.{list_all}
use Rattle.row_text.proofs.complete.is_complete.Given as goal

abbrev pub invariant-loop-p : goal.invariant-loop-p
invariant-loop-p l = list_all (λ cell. is_some cell) (take l.p l.cells) ≡ true
