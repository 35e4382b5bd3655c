-- What is wrong with rows.
use Rattle.std.proofs.Common.{◌≡◌, Bool, true, false, cond, List, [], ◌∷◌, length, map, Option, Some, None, is_none, refl, sym, ap, ◌∙◌, All}
use Rattle.std.specs.Prelude.{option_map, nat_lt}
use Rattle.std.specs.Option.{option_or}
use Rattle.std.proofs.lemmas.List.Elements.{All-cons, All-head, All-nil, All-tail}
use Rattle.cov_model.specs.Fits.{FitsModel}
use Rattle.cov_model.specs.believed.RowFault.{row_fault}
use Rattle.cov_model.specs.declared.row_fault.RowWhy.{RowWhy}
use Rattle.cov_model.specs.believed.Rows.{is_complete}
use Rattle.cov_model.specs.believed.Sound.{ModelView}
use Rattle.cov_model.specs.believed.Valid.{is_valid}
use Rattle.cov_model.proofs.FaultLemmas.{is_none-row_fault}
use Rattle.row_text.specs.RowFiles.{row_seen}
use Rattle.row_text.specs.declared.row_file.FileRow.{FileRow}
use Rattle.shared_marks.proofs.RowLemmas.{complete_is_row}
use Rattle.jeldroft_shrink.specs.declared.cause.ShrinkCause.{ShrinkCause}
use Rattle.jeldroft_shrink.specs.declared.cause.ShrinkCause.TheVariants.{TooManyRows, Incomplete, Invalid}
use Rattle.jeldroft_shrink.specs.believed.Reading.{Lines, first_flaw, given_flaw, most_given, row_flaw}

-- a row with which nothing is wrong is valid
row_valid : (m : ModelView) (row : FileRow) → FitsModel m row.cells → row_flaw m (row_seen row) ≡ None → is_valid m row.cells ≡ true
row_valid m row fits none = by_complete (is_complete row.cells) refl none
  where
    by_fault : (fault : Option RowWhy) → row_fault m row.cells ≡ fault → option_map (Invalid row.line) fault ≡ None → is_none (row_fault m row.cells) ≡ true
    by_fault None is none = ap is_none is
    by_fault (Some why) is none = cc

    by_complete : (b : Bool) → is_complete row.cells ≡ b → cond b (option_map (Invalid row.line) (row_fault m row.cells)) (Some (Incomplete row.line)) ≡ None → is_valid m row.cells ≡ true
    by_complete true complete none =
        sym (is_none-row_fault m row.cells (complete_is_row m row.cells fits complete)) ∙ by_fault (row_fault m row.cells) refl none
    by_complete false complete none = cc

-- and so are rows with none of which anything is
pub rows_valid : (m : ModelView) (rows : List FileRow) → All (λ row. FitsModel m row.cells) rows → first_flaw m (map row_seen rows) ≡ None
    → All (λ row. is_valid m row ≡ true) (map (λ (row : FileRow). row.cells) rows)
rows_valid m [] fit none = All-nil (λ row. is_valid m row ≡ true)
rows_valid m (row ∷ rows) fit none =
    All-cons (λ row. is_valid m row ≡ true) row.cells (map (λ (row : FileRow). row.cells) rows)
    (row_valid m row (All-head (λ (row : FileRow). FitsModel m row.cells) row rows fit) (first (row_flaw m (row_seen row)) none))
    (rows_valid m rows (All-tail (λ (row : FileRow). FitsModel m row.cells) row rows fit) (later (row_flaw m (row_seen row)) none))
  where
    first : (flaw : Option ShrinkCause) → option_or flaw (first_flaw m (map row_seen rows)) ≡ None → flaw ≡ None
    first None none = refl
    first (Some cause) none = none

    later : (flaw : Option ShrinkCause) → option_or flaw (first_flaw m (map row_seen rows)) ≡ None → first_flaw m (map row_seen rows) ≡ None
    later None none = none
    later (Some cause) none = cc

-- rows that may be made fewer have no flaw
pub none_flawed : (m : ModelView) (lines : Lines) → given_flaw m lines ≡ None → first_flaw m lines ≡ None
none_flawed m lines none = go (nat_lt most_given (length lines)) none
  where
    go : (b : Bool) → cond b (Some (TooManyRows (length lines))) (first_flaw m lines) ≡ None → first_flaw m lines ≡ None
    go true none = cc
    go false none = none
