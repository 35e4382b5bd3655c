-- The search of a slice that answers every question, as contracts see it. (This project's rule.)
use Rattle.std.specs.Prelude.{◌≡◌, ℕ, suc, ◌≤◌, Bool, false, List, length, All, Option}
use Rattle.cov_model.specs.Preference.{OrdersValues}
use Rattle.cov_model.specs.believed.Sound.{ModelView}
use Rattle.definitions.specs.believed.Completion.{preferred_values}
use Rattle.definitions.specs.SliceRows.{IsSliceOf}
use Rattle.live_sets.specs.Trail.{LiveView}
use Rattle.feasibility.specs.Solving.{IsReady, SolverView}
use Rattle.full_search.specs.Conflicts.{AreKept}
use Rattle.full_search.specs.Witnesses.{IsWitness}
use Rattle.full_search.specs.declared.conflicts.Conflicts.{Conflicts}
use Rattle.full_search.specs.declared.witness.Witness.{Witness}

-- there is a reason for each number of parameters without a value, none among them, each with room for a partial row
pub record HasReasons (m : ModelView) (whys : List (List (Option ℕ))) : Type 0 where
  pub enough : suc (length m.params) ≤ length whys
  pub long : All (λ why. length why ≡ length m.params) whys

-- the slice and the preferences are the model's, the values to try are those of the slice, a search can begin, and
-- there is room for it; where the node without values doesn't fail, there is a witness; and what is kept are conflicts
pub record IsFullSearch (search : SolverView) (lists : List (List ℕ)) (cells : List (Option ℕ)) (fails : Bool) (sets : LiveView)
    (witness : Witness) (saved : List (Option ℕ)) (whys : List (List (Option ℕ))) (conflicts : Conflicts) : Type 0 where
  pub slice : IsSliceOf search.model search.slice
  pub orders : OrdersValues search.model search.prefs
  pub tried : lists ≡ preferred_values search.model search.prefs search.slice
  pub room : length cells ≡ length search.model.params
  pub ready : IsReady search.model lists fails sets
  pub kept : fails ≡ false → IsWitness (record { model = search.model; values = lists }) witness
  pub row : length saved ≡ length search.model.params
  pub reasons : HasReasons search.model whys
  pub met : AreKept (record { model = search.model; values = lists }) conflicts
