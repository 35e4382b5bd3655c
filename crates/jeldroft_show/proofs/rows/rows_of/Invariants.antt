use Rattle.std.proofs.Common.{◌≡◌, map, take}
use Rattle.jeldroft_show.proofs.rows.rows_of.Given as goal

-- the rows before this one
abbrev pub invariant-loop-row : goal.invariant-loop-row
invariant-loop-row l = l.rows ≡ map (λ row. row.cells) (take l.row-index l.tests.rows)
