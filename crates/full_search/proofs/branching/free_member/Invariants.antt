use Rattle.std.proofs.Common.{◌≡◌, ℕ, ◌<◌, true, get_or}
use Rattle.cov_model.specs.believed.Rows.{is_assigned}
use Rattle.full_search.proofs.branching.free_member.Given as goal

-- those before this place have values
abbrev pub invariant-loop-q : goal.invariant-loop-q
invariant-loop-q l = (i : ℕ) → i < l.q-index → is_assigned l.cells (get_or l.q-items i 0) ≡ true
