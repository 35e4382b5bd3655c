use Rattle.std.proofs.Common.{◌≡◌, ℕ, ◌||◌, take, length}
use Rattle.bit_table.specs.Words.{mark_at}
use Rattle.shared_marks.specs.Adding.{are_behind}
use Rattle.shared_marks.proofs.ranks.put_bits.Given as goal

abbrev pub invariant-loop-rank : goal.invariant-loop-rank
invariant-loop-rank l =
    (length l.words ≡ length l.initial.words)
    × ((place : ℕ) → mark_at l.words place ≡ (mark_at l.initial.words place || are_behind l.base (take l.rank-index l.ranks) place))
