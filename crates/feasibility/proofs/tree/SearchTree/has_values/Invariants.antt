use Rattle.std.proofs.Common.{◌≡◌, ℕ, ◌<◌, [], length, get_or}
use Rattle.std.specs.List.{count_by}
use Rattle.feasibility.proofs.tree.SearchTree.has_values.Given as goal

-- the parameters before this one have marks
abbrev pub invariant-loop-q : goal.invariant-loop-q
invariant-loop-q l = (l.count ≡ length l.self.model.params) × ((s : ℕ) → s < l.q → 0 < count_by (λ mark. mark) (get_or l.sets.live s []))
