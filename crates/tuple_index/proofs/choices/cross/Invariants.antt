use Rattle.std.proofs.Common.{◌≡◌, ◌++◌, drop, map}
use Rattle.std.specs.List.{flat_map}
use Rattle.tuple_index.proofs.choices.cross.Given as goal

abbrev pub invariant-loop-way : goal.invariant-loop-way
invariant-loop-way l = l.both ++ flat_map (λ way. map (λ other. way ++ other) l.others) (drop l.way-index l.ways)
    ≡ flat_map (λ way. map (λ other. way ++ other) l.others) l.ways
