use Rattle.std.proofs.Common.{◌≡◌, ◌++◌, take, map}
use Rattle.tuple_index.proofs.choices.push_joined.Given as goal

abbrev pub invariant-loop-other : goal.invariant-loop-other
invariant-loop-other g l = l.into ≡ l.initial.into ++ map (λ other. l.first ++ other) (take l.other-index l.others)
