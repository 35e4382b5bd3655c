use Rattle.std.proofs.Common.{◌≡◌, map, take}
use Rattle.type_check.specs.believed.Checking.{literal_of}
use Rattle.type_check.proofs.scope.literals_of.Given as goal

abbrev pub invariant-loop-literal : goal.invariant-loop-literal
invariant-loop-literal l = l.copies ≡ map literal_of (take l.literal-index l.literals)
