use Rattle.std.proofs.Common.{◌≡◌, ℕ, ◌<◌, ◌∷◌, ◌++◌, [], ◌&&◌, List, not, nat_lt, length}
use Rattle.seq_check.specs.EventSets.{IsFront, is_open, rises, second_of}
use Rattle.seq_check.proofs.open.OpenSequences.close_row.Given as goal

abbrev pub invariant-loop-event : goal.invariant-loop-event
invariant-loop-event l =
    (l.self.len ≡ l.initial.self.len)
    × ((front : List ℕ) (last : ℕ) → IsFront l.self.len (length l.places) front → last < length l.places →
    is_open l.self front last ≡ (is_open l.initial.self front last && not (nat_lt (second_of front last) l.event && rises l.places (front ++ last ∷ []))))
