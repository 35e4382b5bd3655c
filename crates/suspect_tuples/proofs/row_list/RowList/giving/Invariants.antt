use Rattle.std.proofs.Common.{◌≡◌, filter, take}
use Rattle.suspect_tuples.specs.believed.Suspects.{gives}
use Rattle.suspect_tuples.proofs.row_list.RowList.giving.Given as goal

abbrev pub invariant-loop-at : goal.invariant-loop-at
invariant-loop-at l = l.giving ≡ filter (λ row. gives row l.pair) (take l.at l.self)
