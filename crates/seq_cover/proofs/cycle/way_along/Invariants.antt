use Rattle.std.proofs.Common.{◌≡◌, ℕ, ◌<◌, ◌≤◌, ◌∷◌, ◌++◌, List, length}
use Rattle.seq_check.specs.EventSets.{AreOf}
use Rattle.seq_cover.specs.Sets.{AreLevels}
use Rattle.seq_cover.specs.believed.Ways.{way_back}
use Rattle.seq_cover.proofs.cycle.way_along.Given as goal

abbrev pub invariant-loop-at : goal.invariant-loop-at
invariant-loop-at l =
    (l.at ≤ length l.levels) × (l.event < 64)
    × ((n : ℕ) (pairs : List (ℕ × ℕ)) → n ≤ 64 → AreOf l.ends pairs → AreLevels l.levels n pairs l.goal →
    l.goal ∷ way_back n pairs l.goal (length l.levels) l.goal ≡ l.cycle ++ way_back n pairs l.goal l.at l.event)

abbrev pub decreases-loop-at : goal.decreases-loop-at
decreases-loop-at l = l.at
