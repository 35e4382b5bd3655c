-- The rows that have a value in a column before it grows.
use Rattle.std.proofs.Common.{◌≡◌, ℕ, ◌+◌, ◌<◌, ◌≤◌, Bool, true, false, not, ◌||◌, List, [], length, take, filter, Option, get_or, All, ◌∙◌, sym, ap, subst, refl}
use Rattle.std.proofs.lemmas.Bool.{false≢true}
use Rattle.std.proofs.lemmas.List.{take_more, take_all}
use Rattle.std.proofs.lemmas.List.Elements.{All-filter}
use Rattle.cov_model.proofs.CellLemmas.{contains-assigned}
use Rattle.value_text.proofs.ListLemmas.{filter_all}
use Rattle.cov_model.specs.believed.Rows.{contains, is_assigned}
use Rattle.cov_model.specs.believed.Sound.{ModelView}
use Rattle.cov_model.specs.declared.slice.Slice.{Slice}
use Rattle.definitions.specs.believed.Growth.{is_uncovered}
use Rattle.uncovered_table.specs.Open.{OpenView, row_closed}
use Rattle.ipog_grow.specs.Growing.{IsInPlay, Keeps, open_tuples}
use Rattle.ipog_grow.proofs.HorizontalLemmas.{keeps-same, keeps-both, keeps-row}
use Rattle.ipog_grow.proofs.Holding.{holds, holds-push, open_after}
use Rattle.ipog_grow.proofs.Table.{open_tuples-row_closed}

-- the rows before a place are closed
pub record Started (p : ℕ) (start table : OpenView) (rows : List (List (Option ℕ))) (i : ℕ) : Type 0 where
  pub moment : open_tuples table p ≡ filter (is_uncovered (take i rows)) (open_tuples start p)
  pub keeps : Keeps start table p

pub started-none : (p : ℕ) (table : OpenView) (rows : List (List (Option ℕ))) → Started p table table rows 0
started-none p table rows = record { moment = sym (filter_all (λ t. true) (open_tuples table p) (λ i d within. refl)); keeps = keeps-same table p }

pushed : (rows : List (List (Option ℕ))) (i : ℕ) (t : List (Option ℕ)) → i < length rows → holds (take (i + 1) rows) t
    ≡ (holds (take i rows) t || contains (get_or rows i []) t)
pushed rows i t within = ap (λ list. holds list t) (take_more rows i [] within) ∙ holds-push (take i rows) (get_or rows i []) t

-- a row with a value in the column
pub started-closed : (p : ℕ) (start table after : OpenView) (rows : List (List (Option ℕ))) (i : ℕ) → i < length rows → Started p start table rows i
    → after ≡ row_closed table p (get_or rows i []) → Started p start after rows (i + 1)
started-closed p start table after rows i within started is = record {
  moment =
      ap (λ (t : OpenView). open_tuples t p) is ∙ open_tuples-row_closed table p (get_or rows i [])
      ∙ ap (filter (λ t. not (contains (get_or rows i []) t))) started.moment
      ∙ sym (open_after (take i rows) (take (i + 1) rows) (get_or rows i []) (open_tuples start p) (λ t. pushed rows i t within));
  keeps = keeps-both start table after p started.keeps (keeps-row table after p (get_or rows i []) is);
}

-- a row without one contains none of the tuples
pub started-free : (m : ModelView) (slice : Slice) (p : ℕ) (start table : OpenView) (rows : List (List (Option ℕ))) (i : ℕ) → i < length rows
    → Started p start table rows i
    → All (IsInPlay m slice p) (open_tuples start p) → is_assigned (get_or rows i []) p ≡ false → Started p start table rows (i + 1)
started-free m slice p start table rows i within started in_play free = record {
  moment =
      sym (filter_all (λ t. not (contains (get_or rows i []) t)) (open_tuples table p)
      (λ k d below. not_held (get_or (open_tuples table p) k d) (still k d below)))
      ∙ ap (filter (λ t. not (contains (get_or rows i []) t))) started.moment
      ∙ sym (open_after (take i rows) (take (i + 1) rows) (get_or rows i []) (open_tuples start p) (λ t. pushed rows i t within));
  keeps = started.keeps;
}
  where
    still : All (IsInPlay m slice p) (open_tuples table p)
    still = subst (All (IsInPlay m slice p)) (sym started.moment) (All-filter (is_uncovered (take i rows)) (IsInPlay m slice p) (open_tuples start p) in_play)

    not_held : (t : List (Option ℕ)) → IsInPlay m slice p t → not (contains (get_or rows i []) t) ≡ true
    not_held t is = by_case (contains (get_or rows i []) t) refl
      where
        by_case : (b : Bool) → contains (get_or rows i []) t ≡ b → not b ≡ true
        by_case true held = absurd (false≢true (sym free ∙ contains-assigned (get_or rows i []) t p held is.own))
        by_case false held = refl

-- all rows are
pub started-all : (p : ℕ) (start table : OpenView) (rows : List (List (Option ℕ))) (i : ℕ) → length rows ≤ i → Started p start table rows i
    → open_tuples table p ≡ filter (is_uncovered rows) (open_tuples start p)
started-all p start table rows i past started = started.moment ∙ ap (λ list. filter (is_uncovered list) (open_tuples start p)) (take_all i rows past)
