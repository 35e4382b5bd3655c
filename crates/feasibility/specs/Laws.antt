-- What plain search tells. (This project's rule.)
use Rattle.std.specs.Prelude.{◌≡◌, List, Option, ℕ, is_some}
use Rattle.cov_model.specs.declared.slice.Slice.{Slice}
use Rattle.cov_model.specs.believed.Sound.{ModelView, IsSound}
use Rattle.definitions.specs.believed.Completion.{is_extendable, first_completion}
use Rattle.definitions.specs.believed.Search.{plain_search}
use Rattle.cov_model.specs.Preference.{OrdersValues}
use Rattle.definitions.specs.SliceRows.{IsSliceOf, IsOfSlice}

-- plain search succeeds on a partial row of a slice exactly if it is extendable there, and then it has a
-- first completion, whatever the preferences
abbrev pub PlainSearchIsExact : Type 0
PlainSearchIsExact = (m : ModelView) (pref : List (List ℕ)) (slice : Slice) (cells : List (Option ℕ)) → IsSound m → OrdersValues m pref
    → IsSliceOf m slice → IsOfSlice m slice cells
    → ((plain_search m pref slice cells).found ≡ is_extendable m slice cells) × (is_some (first_completion m pref slice cells) ≡ is_extendable m slice cells)
