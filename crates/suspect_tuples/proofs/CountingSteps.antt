-- The rows of a file of results, counted one after another.
use Rattle.std.proofs.Common.{◌≡◌, ℕ, ◌+◌, ◌<◌, ◌≤◌, Bool, true, false, cond, List, [], ◌∷◌, ◌++◌, map, filter, take, length, get_or, Option, refl, sym, ap, ◌∙◌, arith, length-append}
use Rattle.std.specs.Prelude.{◌&&◌, not, zip}
use Rattle.std.proofs.lemmas.List.{get_or-map, length-map, take_more, take_all}
use Rattle.std.proofs.lemmas.List.Elements.{filter-append}
use Rattle.std.proofs.lemmas.Slice.Zip.{get_or-zip, length-zip}
use Rattle.cov_model.specs.believed.Rows.{is_complete}
use Rattle.row_text.specs.declared.row_file.FileRow.{FileRow}
use Rattle.suspect_tuples.specs.believed.Suspects.{failing_rows, incomplete_rows, passing_rows}
use Rattle.suspect_tuples.specs.declared.counting.CountedRows.{CountedRows}
use Rattle.suspect_tuples.proofs.RowListLemmas.{kept_more}

abbrev pub cells_seen : List FileRow → List (List (Option ℕ))
cells_seen rows = map (λ row. row.cells) rows

-- the rows before a place are counted
pub record CountedSoFar (rows : List FileRow) (failed : List Bool) (at : ℕ) (counted : CountedRows) : Type 0 where
  pub passing : counted.passing ≡ map (λ row. row.0) (filter (λ row. is_complete row.0 && not row.1) (take at (zip (cells_seen rows) failed)))
  pub failing : counted.failing ≡ map (λ row. row.0) (filter (λ row. is_complete row.0 && row.1) (take at (zip (cells_seen rows) failed)))
  pub incomplete : counted.incomplete ≡ length (filter (λ row. not (is_complete row)) (take at (cells_seen rows)))
  pub few : counted.incomplete ≤ at

-- a row more
pub record AddsRow (cells : List (Option ℕ)) (failed : Bool) (before after : CountedRows) : Type 0 where
  pub passing : after.passing ≡ before.passing ++ cond (is_complete cells && not failed) (cells ∷ []) []
  pub failing : after.failing ≡ before.failing ++ cond (is_complete cells && failed) (cells ∷ []) []
  pub incomplete : after.incomplete ≡ before.incomplete + cond (is_complete cells) 0 1

one_more : (f : List (Option ℕ) → Bool) (rows : List (List (Option ℕ))) (at : ℕ) (row : List (Option ℕ)) → at < length rows → row ≡ get_or rows at row
    → length (filter (λ x. not (f x)) (take (at + 1) rows)) ≡ length (filter (λ x. not (f x)) (take at rows)) + cond (f row) 0 1
one_more f rows at row within read =
    ap (λ xs. length (filter (λ x. not (f x)) xs)) (take_more rows at row within ∙ ap (λ x. take at rows ++ x ∷ []) (sym read))
    ∙ ap length (filter-append (λ x. not (f x)) (take at rows) (row ∷ []))
    ∙ length-append (filter (λ x. not (f x)) (take at rows)) (filter (λ x. not (f x)) (row ∷ []))
    ∙ ap (λ n. length (filter (λ x. not (f x)) (take at rows)) + n) (one (f row))
  where
    one : (b : Bool) → length (cond (not b) (row ∷ []) []) ≡ cond b 0 1
    one true = refl
    one false = refl

pub counted_more : (rows : List FileRow) (failed : List Bool) (at : ℕ) (item : FileRow) (flag : Bool) (before after : CountedRows)
    → at < length rows → length failed ≡ length rows → CountedSoFar rows failed at before
    → AddsRow (get_or rows at item).cells (get_or failed at flag) before after → CountedSoFar rows failed (at + 1) after
counted_more rows failed at item flag before after within same so_far adds =
    let cells = cells_seen rows in
    let row = (get_or rows at item).cells in
    let failed_here = get_or failed at flag in
    let in_cells : at < length cells = omega (arith, length-map rows (λ (row : FileRow). row.cells), within) in
    let in_failed : at < length failed = omega (arith, same, within) in
    let in_both : at < length (zip cells failed) = omega (arith, length-zip cells failed, in_cells, in_failed) in
    let here : (d : List (Option ℕ)) → get_or cells at d ≡ row = λ d. get_or-map (λ (row : FileRow). row.cells) rows at item d within in
    let flagged : get_or failed at flag ≡ failed_here = refl in
    let read : (row, failed_here) ≡ get_or (zip cells failed) at (row, flag) =
    sym (get_or-zip cells failed at (row, flag) in_cells in_failed ∙ ap (λ c. (c, failed_here)) (here row)) in
    record {
      passing = kept_more (λ row. row.0) (λ row. is_complete row.0 && not row.1) (zip cells failed) at (row, flag) (row, failed_here) before.passing after.passing
          in_both read so_far.passing adds.passing;
      failing = kept_more (λ row. row.0) (λ row. is_complete row.0 && row.1) (zip cells failed) at (row, flag) (row, failed_here) before.failing after.failing
          in_both read so_far.failing adds.failing;
      incomplete = adds.incomplete ∙ ap (λ n. n + cond (is_complete row) 0 1) so_far.incomplete ∙ sym (one_more is_complete cells at row in_cells (sym (here row)));
      few = at_most (is_complete row) adds.incomplete;
    }
  where
    at_most : (b : Bool) → after.incomplete ≡ before.incomplete + cond b 0 1 → after.incomplete ≤ at + 1
    at_most true is = omega (arith, is, so_far.few)
    at_most false is = omega (arith, is, so_far.few)

-- all rows are
pub record AreCounted (rows : List FileRow) (failed : List Bool) (counted : CountedRows) : Type 0 where
  pub passing : counted.passing ≡ passing_rows (cells_seen rows) failed
  pub failing : counted.failing ≡ failing_rows (cells_seen rows) failed
  pub incomplete : counted.incomplete ≡ length (incomplete_rows (cells_seen rows))

pub counted_all : (rows : List FileRow) (failed : List Bool) (at : ℕ) (counted : CountedRows) → length rows ≤ at → length failed ≡ length rows
    → CountedSoFar rows failed at counted → AreCounted rows failed counted
counted_all rows failed at counted past same so_far =
    let cells = cells_seen rows in
    let many = length-map rows (λ (row : FileRow). row.cells) in
    let both : take at (zip cells failed) ≡ zip cells failed = take_all at (zip cells failed) (omega (arith, length-zip cells failed, many, same, past)) in
    let each : take at cells ≡ cells = take_all at cells (omega (arith, many, past)) in
    record {
      passing = so_far.passing ∙ ap (λ xs. map (λ row. row.0) (filter (λ row. is_complete row.0 && not row.1) xs)) both;
      failing = so_far.failing ∙ ap (λ xs. map (λ row. row.0) (filter (λ row. is_complete row.0 && row.1) xs)) both;
      incomplete = so_far.incomplete ∙ ap (λ xs. length (filter (λ row. not (is_complete row)) xs)) each;
    }
