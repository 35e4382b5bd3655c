-- What is kept of rows that are looked up. (How this program finds the smallest suspicious tuples; no public clause
-- speaks of it.)
use Rattle.std.specs.Prelude.{◌≡◌, ℕ, ◌<◌, List, [], Option, length, slice_index_or}
use Rattle.cov_model.specs.believed.Sound.{ModelView, param_at}
use Rattle.suspect_tuples.specs.RowBits.{MarkHaving}
use Rattle.suspect_tuples.specs.ValueRows.{AreGiven, AreValueRows}
use Rattle.suspect_tuples.specs.declared.value_rows.ValueRows.{ValueRows}

-- the rows that give each of so many parameters of a model each of its values
pub record AreParamSets (m : ModelView) (rows : List (List (Option ℕ))) (count : ℕ) (sets : List (List ValueRows)) : Type 0 where
  pub long : length sets ≡ count
  pub each : (p : ℕ) → p < count → AreValueRows rows p (length (param_at m.params p).values) (slice_index_or sets p [])

-- words mark all rows, and for each pair the rows are kept that give its parameter its value
pub record AreRowBits (rows : List (List (Option ℕ))) (all : List ℕ) (giving : List (List ValueRows)) : Type 0 where
  pub every : MarkHaving rows [] all
  pub given : AreGiven rows giving
