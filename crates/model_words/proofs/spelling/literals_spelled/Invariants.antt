use Rattle.std.proofs.Common.{◌≡◌, map, take}
use Rattle.model_words.specs.believed.Constraints.{literal_spelled}
use Rattle.model_words.proofs.spelling.literals_spelled.Given as goal

abbrev pub invariant-loop-literal : goal.invariant-loop-literal
invariant-loop-literal l = l.copies ≡ map literal_spelled (take l.literal-index l.literals)
