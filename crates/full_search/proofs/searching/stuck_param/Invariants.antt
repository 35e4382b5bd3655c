use Rattle.std.proofs.Common.{◌≡◌, ℕ, ◌-◌, ◌<◌, [], true, length, get_or, ◌⊎◌}
use Rattle.std.specs.List.{count_by}
use Rattle.cov_model.specs.believed.Rows.{is_assigned}
use Rattle.full_search.proofs.searching.stuck_param.Given as goal

-- each parameter before this one has a value or a mark
abbrev pub invariant-loop-q : goal.invariant-loop-q
invariant-loop-q l = (p : ℕ) → p < l.q → (is_assigned l.cells p ≡ true) ⊎ (0 < count_by (λ mark. mark) (get_or l.sets.live p []))

abbrev pub decreases-loop-q : goal.decreases-loop-q
decreases-loop-q l = length l.tree.model.params - l.q
