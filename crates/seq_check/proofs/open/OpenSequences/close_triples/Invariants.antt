use Rattle.std.proofs.Common.{◌≡◌, ℕ, ◌+◌, ◌*◌, ◌<◌, ◌&&◌, not, eqb, nat_lt, length, slice_index}
use Rattle.seq_check.specs.EventSets.{in_set, in_set_at}
use Rattle.seq_check.proofs.open.OpenSequences.close_triples.Given as goal

abbrev pub invariant-loop-last : goal.invariant-loop-last
invariant-loop-last l =
    (l.self.len ≡ l.initial.self.len) × (length l.self.sets ≡ length l.initial.self.sets)
    × ((first second last : ℕ) → first < 64 → second < 64 → last < length l.places →
    in_set_at l.self.sets (64 * second + last) first ≡ (in_set_at l.initial.self.sets (64 * second + last) first
    && not ((nat_lt last l.last && ((eqb l.event second) && nat_lt (slice_index l.places l.event) (slice_index l.places last))) && in_set l.firsts first)))
