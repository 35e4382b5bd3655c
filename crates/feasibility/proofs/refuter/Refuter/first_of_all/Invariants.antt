use Rattle.std.proofs.Common.{◌≡◌, None, find, length}
use Rattle.std.specs.List.{range_with_len}
use Rattle.definitions.specs.believed.Refutation.{is_omission_leaf}
use Rattle.feasibility.proofs.refuter.Refuter.first_of_all.Given as goal

-- none of the omissions before this one is a leaf
abbrev pub invariant-loop-i : goal.invariant-loop-i
invariant-loop-i l = (l.count ≡ length l.self.earlier)
    × (find (is_omission_leaf l.self.model l.self.format l.self.earlier l.self.tuple l.cells) (range_with_len 1 l.i) ≡ None)
