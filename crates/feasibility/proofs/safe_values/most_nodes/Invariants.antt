use Rattle.std.proofs.Common.{take}
use Rattle.feasibility.specs.SafeValues.{AreSafe}
use Rattle.feasibility.proofs.safe_values.most_nodes.Given as goal

-- so it is of the parameters before this one
abbrev pub invariant-loop-named : goal.invariant-loop-named
invariant-loop-named l = AreSafe (take l.named-index l.constrained) l.values l.most
