use Rattle.std.proofs.Common.{◌≡◌, ℕ, ◌<◌, ◌&&◌, ◌||◌, eqb, nat_lt}
use Rattle.seq_check.specs.EventSets.{in_set, in_set_at}
use Rattle.seq_cover.proofs.ways.add_way.Given as goal

abbrev pub invariant-loop-event : goal.invariant-loop-event
invariant-loop-event l =
    (first second : ℕ) → first < 64 → in_set_at l.ways first second
    ≡ (in_set_at l.initial.ways first second || (nat_lt first l.event && ((eqb first l.from || in_set_at l.initial.ways first l.from) && in_set l.through second)))
