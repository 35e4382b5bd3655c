-- A partial row whose cells are tested one by one is of the slice.
use Rattle.std.proofs.Common.{◌≡◌, ℕ, ◌<◌, true, List, [], length, get_or, Option, Some, None, is_some, unwrap_or, ◌∙◌, ap, subst}
use Rattle.std.specs.Option.{option_map_or}
use Rattle.std.proofs.lemmas.Bool.{false≢true}
use Rattle.cov_model.specs.declared.slice.Slice.{Slice}
use Rattle.cov_model.specs.believed.Sound.{ModelView}
use Rattle.cov_model.specs.believed.Rows.{is_assigned, value_in}
use Rattle.cov_model.specs.believed.Slices.{slice_values}
use Rattle.cov_model.proofs.CellLemmas.{assigned_within, length-slice_values}
use Rattle.definitions.specs.believed.Demand.{is_among}
use Rattle.definitions.specs.SliceRows.{IsOfSlice}
use Rattle.definitions.proofs.Members.{of_among}
use Rattle.definitions.proofs.SliceLemmas.{value_exists}
use Rattle.definitions.proofs.SliceValues.{slice_exists}
use Rattle.row_completer.specs.SliceValues.{AreValuesOf}

-- the cell of a parameter has no value, or one that is listed
abbrev pub IsListedAt : List (List ℕ) → List (Option ℕ) → ℕ → Type 0
IsListedAt lists cells p = option_map_or (is_among (get_or lists p [])) (get_or cells p None) true ≡ true

listed_value : (values : List ℕ) (cell : Option ℕ) → is_some cell ≡ true → option_map_or (is_among values) cell true ≡ true
    → is_among values (unwrap_or cell 0) ≡ true
listed_value values None assigned listed = absurd (false≢true assigned)
listed_value values (Some v) assigned listed = listed

pub of_slice : (m : ModelView) (slice : Slice) (lists : List (List ℕ)) (cells : List (Option ℕ)) → AreValuesOf m slice lists → length cells ≡ length lists
    → ((p : ℕ) → p < length cells → IsListedAt lists cells p) → IsOfSlice m slice cells
of_slice m slice lists cells values long each =
    record {
      fits = record {
        as_long = as_long;
        exist = λ p assigned. value_exists m slice p (value_in cells p) (slice_exists m slice values.own)
            (subst (λ n. p < n) as_long (assigned_within cells p assigned)) (of_among (get_or (slice_values m slice) p []) (value_in cells p) (listed p assigned));
      };
      listed = listed;
    }
  where
    as_long : length cells ≡ length m.params
    as_long = long ∙ ap length values.are ∙ length-slice_values m slice

    listed : (p : ℕ) → is_assigned cells p ≡ true → is_among (get_or (slice_values m slice) p []) (value_in cells p) ≡ true
    listed p assigned =
        subst (λ ls. is_among (get_or ls p []) (value_in cells p) ≡ true) values.are
        (listed_value (get_or lists p []) (get_or cells p None) assigned (each p (assigned_within cells p assigned)))
