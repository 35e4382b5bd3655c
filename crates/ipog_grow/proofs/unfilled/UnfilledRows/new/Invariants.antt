use Rattle.std.proofs.Common.{◌≡◌, [], map, replicate}
use Rattle.ipog_grow.proofs.unfilled.UnfilledRows.new.Given as goal

-- an empty list for each value so far
abbrev pub invariant-loop : goal.invariant-loop
invariant-loop l = map (λ list. list.items) l.by_value.items ≡ replicate l.counter []
