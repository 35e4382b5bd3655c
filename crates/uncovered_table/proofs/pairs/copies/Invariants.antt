use Rattle.std.proofs.Common.{◌≡◌, map, replicate}
use Rattle.uncovered_table.proofs.pairs.copies.Given as goal

abbrev pub invariant-loop : goal.invariant-loop
invariant-loop l = map (λ list. list.items) l.blocks.items ≡ replicate l.counter l.block
