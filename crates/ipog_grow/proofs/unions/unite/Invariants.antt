use Rattle.std.proofs.Common.{take}
use Rattle.ipog_grow.proofs.Uniting.{UnitedAt}
use Rattle.ipog_grow.proofs.unions.unite.Given as goal

abbrev pub invariant-loop-p : goal.invariant-loop-p
invariant-loop-p l = UnitedAt l.row l.tuple l.into (take l.p-index l.given)
