use Rattle.std.proofs.Common.{◌≡◌, ℕ, ◌*◌, ◌<◌, false, length, get_or}
use Rattle.bit_table.specs.Words.{mark_at}
use Rattle.shared_marks.proofs.flags.pack.Given as goal

abbrev pub invariant-loop-at : goal.invariant-loop-at
invariant-loop-at l =
    (length l.words ≡ length l.initial.words)
    × ((place : ℕ) → place < 64 * l.at → mark_at l.words place ≡ get_or l.flags place false)
