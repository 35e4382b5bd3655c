use Rattle.std.proofs.Common.{◌≡◌, length, take}
use Rattle.definitions.specs.believed.Pairs.{pairs_of}
use Rattle.feasibility.proofs.question.tuple_of.Given as goal

-- the pairs of the places before this one
abbrev pub invariant-loop-p : goal.invariant-loop-p
invariant-loop-p l = (l.count ≡ length l.cells) × (l.pairs.items ≡ pairs_of (take l.p l.cells))
