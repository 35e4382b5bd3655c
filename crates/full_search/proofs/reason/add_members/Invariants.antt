use Rattle.full_search.proofs.Grown.{GrowsWith, IsBefore}
use Rattle.full_search.proofs.reason.add_members.Given as goal

-- the reason has what the path gives the parameters before this one
abbrev pub invariant-loop-q : goal.invariant-loop-q
invariant-loop-q l = GrowsWith (IsBefore l.q-items l.q-index) l.cells l.p l.fn.why l.why
