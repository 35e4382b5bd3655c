use Rattle.std.proofs.Common.{◌≡◌, take, map}
use Rattle.tuple_index.specs.Signs.{values_of_sign}
use Rattle.tuple_index.proofs.values.values_by_sign.Given as goal

abbrev pub invariant-loop-param : goal.invariant-loop-param
invariant-loop-param l = map (λ list. list.items) l.lists.items ≡ map (λ param. values_of_sign l.negative param.values) (take l.param-index l.param-items)
