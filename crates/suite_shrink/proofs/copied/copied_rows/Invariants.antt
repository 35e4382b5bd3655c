use Rattle.std.proofs.Common.{◌≡◌, All, map, take}
use Rattle.cov_model.specs.Fits.{FitsModel}
use Rattle.row_text.specs.declared.row_file.FileRow.{FileRow}
use Rattle.suite_shrink.proofs.copied.copied_rows.Given as goal

-- the rows before this one are copied
abbrev pub invariant-loop-row : goal.invariant-loop-row
invariant-loop-row l = record {
  rows : l.rows ≡ map (λ (row : FileRow). row.cells) (take l.row-index l.file.rows);
  fit : All (FitsModel l.model) l.rows;
}
