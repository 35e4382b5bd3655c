use Rattle.std.proofs.Common.{◌≡◌, drop}
use Rattle.std.specs.List.{list_all}
use Rattle.definitions.specs.believed.Growth.{agrees}
use Rattle.ipog_grow.proofs.Giving.{agree_at}
use Rattle.ipog_grow.proofs.unions.agree.Given as goal

-- the parameters that are left decide
abbrev pub invariant-loop-p : goal.invariant-loop-p
invariant-loop-p l = list_all (agree_at l.row l.tuple) (drop l.p-index l.given) ≡ agrees l.row l.tuple
