use Rattle.std.proofs.Common.{◌≡◌, ℕ, ◌<◌, false, [], drop, get_or}
use Rattle.std.specs.Prelude.{codes}
use Rattle.value_text.specs.believed.Texts.{is_same_text}
use Rattle.definitions.specs.believed.RowFile.{cells_of_line}
use Rattle.suspect_tuples.proofs.reading.result_column.Given as goal

abbrev pub invariant-loop-place : goal.invariant-loop-place
invariant-loop-place l = record {
  left : l.cells ≡ drop l.place (cells_of_line l.header);
  before : (k : ℕ) → k < l.place → is_same_text l.fold (codes ":result") (get_or (cells_of_line l.header) k []) ≡ false;
}
