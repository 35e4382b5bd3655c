use Rattle.std.proofs.Common.{◌≡◌, None, find, take}
use Rattle.definitions.specs.believed.Refutation.{is_omission_leaf}
use Rattle.feasibility.proofs.refuter.Refuter.lesser_citation.Given as goal

-- none of the omissions before this one is a leaf
abbrev pub invariant-loop-number : goal.invariant-loop-number
invariant-loop-number l = find (is_omission_leaf l.self.model l.self.format l.self.earlier l.self.tuple l.cells) (take l.number-index l.numbers) ≡ None
