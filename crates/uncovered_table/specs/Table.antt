-- What a table keeps.
use Rattle.std.specs.Prelude.{◌≡◌, ℕ, Bool, IfSome, List, Option, length}
use Rattle.cov_model.specs.declared.slice.Slice.{Slice}
use Rattle.cov_model.specs.believed.Sound.{ModelView}
use Rattle.uncovered_table.specs.declared.pairs.PairBits.{PairBits}
use Rattle.uncovered_table.specs.declared.prepared.ColumnLines.{ColumnLines}
use Rattle.uncovered_table.specs.Masks.{AreBegins}
use Rattle.uncovered_table.specs.Pairs.{AreKept, digit_count}
use Rattle.uncovered_table.specs.Places.{slice_places}
use Rattle.uncovered_table.specs.Prepared.{AreReady}

-- a table has a bit for each place, what is ready for a column or nothing, and for some columns pairs
pub record IsTable (m : ModelView) (slice : Slice) (ready : Option ColumnLines) (begins : List ℕ) (pairs : List (Option PairBits)) (bits : List Bool) : Type 0 where
  pub long : length bits ≡ length (slice_places m slice)
  pub lines : IfSome ready (λ made. AreReady m slice bits made.column made)
  pub begins_are : AreBegins (digit_count m slice) (length m.params) begins
  pub kept : AreKept m slice bits (length m.params) pairs
