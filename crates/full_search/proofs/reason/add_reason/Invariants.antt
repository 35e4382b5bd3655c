use Rattle.std.proofs.Common.{◌≡◌, length}
use Rattle.full_search.proofs.Grown.{GrowsWith, IsGivenBefore}
use Rattle.full_search.proofs.reason.add_reason.Given as goal

-- the reason has what the path gives the parameters before this one that the other reason speaks of
abbrev pub invariant-loop-q : goal.invariant-loop-q
invariant-loop-q l = record {
  count : l.count ≡ length l.cells;
  grown : GrowsWith (IsGivenBefore l.below l.q) l.cells l.p l.fn.why l.why;
}
