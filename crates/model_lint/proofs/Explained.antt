-- One value more that is told.
use Rattle.std.proofs.Common.{◌≡◌, ℕ, List, [], ◌∷◌, ◌++◌, All, Option, sym, subst}
use Rattle.std.proofs.lemmas.List.Elements.{All-push}
use Rattle.cov_model.specs.declared.slice.Slice.{Slice}
use Rattle.cov_model.specs.believed.Sound.{ModelView}
use Rattle.model_lint.specs.declared.finding.UnusedValue.{UnusedValue}
use Rattle.model_lint.specs.believed.Tests.{IsConflict, slice_with, value_alone}
use Rattle.model_lint.specs.Unused.{IsExplained}

pub one_more : (m : ModelView) (list next : List UnusedValue) (p v : ℕ) (slice : Slice) (cells : List (Option ℕ)) (constraints : List ℕ)
    → slice ≡ slice_with m (p, v) → cells ≡ value_alone m (p, v) → IsConflict m slice cells constraints → All (IsExplained m) list
    → next ≡ list ++ (record { parameter = p; value = v; constraints = constraints }) ∷ [] → All (IsExplained m) next
one_more m list next p v slice cells constraints is_slice alone conflict explained longer =
    subst (All (IsExplained m)) (sym longer)
    (All-push (IsExplained m) list (record { parameter = p; value = v; constraints = constraints }) explained
    (subst (λ s. IsConflict m s (value_alone m (p, v)) constraints) is_slice (subst (λ c. IsConflict m slice c constraints) alone conflict)))
