use Rattle.std.proofs.Common.{◌≡◌, map, length}
use Rattle.std.specs.List.{range_with_len}
use Rattle.definitions.specs.believed.Completion.{preferred_at}
use Rattle.feasibility.proofs.values.preferred_lists.Given as goal

-- the lists of the parameters before this one
abbrev pub invariant-loop-p : goal.invariant-loop-p
invariant-loop-p l = (l.count ≡ length l.model.params) × (l.lists ≡ map (preferred_at l.model l.prefs l.slice) (range_with_len 0 l.p))
