use Rattle.std.proofs.Common.{◌≡◌, ℕ, ◌||◌, false, take, length, get_or}
use Rattle.shared_marks.specs.Adding.{are_behind}
use Rattle.shared_marks.proofs.flags.set_flags.Given as goal

abbrev pub invariant-loop-rank : goal.invariant-loop-rank
invariant-loop-rank l =
    (length l.flags ≡ length l.initial.flags)
    × ((place : ℕ) → get_or l.flags place false ≡ (get_or l.initial.flags place false || are_behind l.base (take l.rank-index l.ranks) place))
