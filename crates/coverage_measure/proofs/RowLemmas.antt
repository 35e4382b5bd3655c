-- One more row of a suite, counted by its kind.
use Rattle.std.proofs.Common.{◌≡◌, ℕ, ◌+◌, ◌<◌, ◌≤◌, Bool, true, false, ◌&&◌, not, cond, List, [], length, get_or, map, take, drop, Option, refl, ◌∙◌, sym, ap, subst, arith, length-append}
use Rattle.std.proofs.lemmas.List.{get_or-map, length-map, take-append-drop}
use Rattle.std.proofs.lemmas.List.Filters.{length-filter_more}
use Rattle.cov_model.specs.believed.Sound.{ModelView}
use Rattle.cov_model.specs.believed.Rows.{is_complete}
use Rattle.cov_model.specs.believed.Valid.{is_valid}
use Rattle.row_text.specs.declared.row_file.FileRow.{FileRow}
use Rattle.value_text.proofs.ListLemmas.{length-filter-le}
use Rattle.coverage_measure.specs.declared.suite_rows.RowCounts.{RowCounts}
use Rattle.coverage_measure.specs.declared.suite_rows.RowKind.{RowKind}
use Rattle.coverage_measure.specs.declared.suite_rows.RowKind.TheVariants.{Test, Incomplete, Invalid}
use Rattle.coverage_measure.specs.SuiteRows.{kind_of, row_counts, with_kind}

-- the counts with a row that is complete and valid, or isn't
abbrev with_row : Bool → Bool → RowCounts → RowCounts
with_row complete valid counts = record {
  tests = counts.tests + cond (complete && valid) 1 0;
  incomplete = counts.incomplete + cond (not complete) 1 0;
  invalid = counts.invalid + cond (complete && not valid) 1 0;
}

pub plus_none : (n : ℕ) → n + 0 ≡ n
plus_none n = omega arith

by_kind : (complete valid : Bool) (counts : RowCounts) → with_row complete valid counts ≡ with_kind (cond complete (cond valid Test Invalid) Incomplete) counts
by_kind true true counts = rw (plus_none counts.incomplete, plus_none counts.invalid) refl
by_kind true false counts = rw (plus_none counts.tests, plus_none counts.incomplete) refl
by_kind false valid counts = rw (plus_none counts.tests, plus_none counts.invalid) refl

pub counts_more : (m : ModelView) (rows : List (List (Option ℕ))) (i : ℕ) → i < length rows
    → row_counts m (take (i + 1) rows) ≡ with_kind (kind_of m (get_or rows i [])) (row_counts m (take i rows))
counts_more m rows i within =
    let row = get_or rows i [] in
    rw (
      length-filter_more (λ row. is_complete row && is_valid m row) rows i [] within,
      length-filter_more (λ row. not (is_complete row)) rows i [] within,
      length-filter_more (λ row. is_complete row && not (is_valid m row)) rows i [] within,
    )
    (by_kind (is_complete row) (is_valid m row) (row_counts m (take i rows)))

-- there are no more of a kind than rows
pub record AreFew (counts : RowCounts) (most : ℕ) : Type 0 where
  pub tests : counts.tests ≤ most
  pub incomplete : counts.incomplete ≤ most
  pub invalid : counts.invalid ≤ most

pub counts_few : (m : ModelView) (rows : List (List (Option ℕ))) (most : ℕ) → length rows ≤ most → AreFew (row_counts m rows) most
counts_few m rows most few = record {
  tests = omega (arith, few, length-filter-le (λ row. is_complete row && is_valid m row) rows);
  incomplete = omega (arith, few, length-filter-le (λ row. not (is_complete row)) rows);
  invalid = omega (arith, few, length-filter-le (λ row. is_complete row && not (is_valid m row)) rows);
}

-- of a part of the rows too
pub part_few : (m : ModelView) (rows : List FileRow) (i most : ℕ) (counts : RowCounts) → length rows ≤ most
    → counts ≡ row_counts m (take i (map (λ row. row.cells) rows)) → AreFew counts most
part_few m rows i most counts few is =
    let seen : List (List (Option ℕ)) = map (λ row. row.cells) rows in
    let all = ap (λ (xs : List (List (Option ℕ))). length xs) (take-append-drop i seen) in
    subst (λ k. AreFew k most) (sym is)
    (counts_few m (take i seen) most (omega (arith, few, length-map rows (λ (row : FileRow). row.cells), all, length-append (take i seen) (drop i seen))))

-- a row of a file is counted
pub row_more : (m : ModelView) (rows : List FileRow) (i : ℕ) (row : FileRow) (kind : RowKind) (before after : RowCounts) → i < length rows
    → row ≡ get_or rows i row → kind ≡ kind_of m row.cells → before ≡ row_counts m (take i (map (λ row. row.cells) rows)) → after ≡ with_kind kind before
    → after ≡ row_counts m (take (i + 1) (map (λ row. row.cells) rows))
row_more m rows i row kind before after within is kind_is before_is after_is =
    let cells : FileRow → List (Option ℕ) = λ row. row.cells in
    let here : get_or (map cells rows) i [] ≡ row.cells = get_or-map cells rows i row [] within ∙ ap cells (sym is) in
    after_is ∙ ap (λ k. with_kind k before) (kind_is ∙ ap (kind_of m) (sym here)) ∙ ap (with_kind (kind_of m (get_or (map cells rows) i []))) before_is
    ∙ sym (counts_more m (map cells rows) i (omega (arith, within, length-map rows cells)))
