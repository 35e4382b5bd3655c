use Rattle.std.proofs.Common.{◌≡◌, ◌∙◌, [], ℕ, Vec, Global, length, map, ap, subst, sym}
use Rattle.std.proofs.lemmas.List.{length-map}
use Rattle.std.proofs.lemmas.List.Elements.{All-map, filter_passes}
use Rattle.row_text.specs.declared.row_file.FileRow.{FileRow}
use Rattle.shared_marks.specs.TestColumns.{ArePlain, is_plain}
use Rattle.shared_marks.proofs.ColumnLemmas.{none_filled}
use Rattle.shared_marks.proofs.test_columns.TestColumns.of.Goals as goal

pub returns-clause-columns : goal.returns-clause-columns
returns-clause-columns c =
    let m = c.args.model.now in
    let columns = c.in_ok-places.places.items in
    none_filled m _ (subst (ArePlain m) (sym c.in_ok-tests.ensures) (filter_passes (is_plain m) (map (λ (row : FileRow). row.cells) c.args.rows.now)))
    (length-map columns (λ (column : Vec ℕ Global). column.items) ∙ c.in_ok-places.ensures.long ∙ c.len.ensures ∙ ap length c.params.ensures.value)
    (All-map (λ column. column ≡ []) (λ (column : Vec ℕ Global). column.items) columns c.in_ok-places.ensures.empty)
