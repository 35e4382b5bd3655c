use Rattle.std.proofs.Common.{ℕ, List, Option, ◌++◌, take}
use Rattle.suspect_tuples.specs.RowBits.{MarksHaving}
use Rattle.suspect_tuples.specs.ValueRows.{AreGiven}
use Rattle.suspect_tuples.proofs.row_bits.narrowed.Given as goal

abbrev pub invariant-loop-pair : goal.invariant-loop-pair
invariant-loop-pair l =
    (rows : List (List (Option ℕ))) (before : List (ℕ × ℕ)) → AreGiven rows l.giving → MarksHaving rows before l.k l.word
    → MarksHaving rows (before ++ take l.pair-index l.tuple) l.k l.narrowed
