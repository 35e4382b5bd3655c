-- The solver that contracts see. (This project's rule.)
use Rattle.std.specs.Prelude.{◌≡◌, ℕ, Bool, true, false, List, length, Option}
use Rattle.cov_model.specs.declared.slice.Slice.{Slice}
use Rattle.cov_model.specs.believed.Sound.{ModelView}
use Rattle.cov_model.specs.Preference.{OrdersValues}
use Rattle.definitions.specs.believed.Completion.{preferred_values}
use Rattle.definitions.specs.believed.Search.{is_failing}
use Rattle.definitions.specs.SliceRows.{IsSliceOf}
use Rattle.live_sets.specs.Trail.{LiveView}
use Rattle.feasibility.specs.Live.{ShowsFailure, ShowsLive}
use Rattle.feasibility.specs.Tree.{no_values}

-- a solver answers questions about one slice of a model, and completes by these preferences
pub record SolverView : Type 0 where
  pub model : ModelView
  pub prefs : List (List ℕ)
  pub slice : Slice

-- it is told whether the node without values fails; the sets show why, or the values that are live there
pub record IsReady (m : ModelView) (lists : List (List ℕ)) (failing : Bool) (sets : LiveView) : Type 0 where
  pub fails : failing ≡ is_failing m lists (no_values m)
  pub live : failing ≡ false → ShowsLive m lists (no_values m) sets
  pub why : failing ≡ true → ShowsFailure m lists (no_values m) sets

-- the slice and the preferences are the model's, the values to try are those of the slice, there is room for a
-- partial row, and a search can begin
pub record IsSolver (solver : SolverView) (lists : List (List ℕ)) (cells : List (Option ℕ)) (fails : Bool) (sets : LiveView) : Type 0 where
  pub slice : IsSliceOf solver.model solver.slice
  pub orders : OrdersValues solver.model solver.prefs
  pub tried : lists ≡ preferred_values solver.model solver.prefs solver.slice
  pub room : length cells ≡ length solver.model.params
  pub ready : IsReady solver.model lists fails sets
