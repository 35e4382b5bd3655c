use Rattle.std.proofs.Common.{◌≡◌, ℕ, ◌<◌, ◌&&◌, ◌||◌, List, Bool, nat_lt, is_some}
use Rattle.seq_check.specs.EventSets.{AreOf, in_set}
use Rattle.seq_cover.specs.Sets.{Holds}
use Rattle.seq_cover.specs.believed.Ways.{next_near}
use Rattle.seq_cover.proofs.cycle.one_step_more.Given as goal

abbrev pub invariant-loop-event : goal.invariant-loop-event
invariant-loop-event l =
    (pairs : List (ℕ × ℕ)) (test : ℕ → Bool) → AreOf l.ends pairs → Holds l.near l.count test →
    (k : ℕ) → k < 64 → in_set l.wider k ≡ (in_set l.near k || (nat_lt k l.event && is_some (next_near l.count pairs test k)))
