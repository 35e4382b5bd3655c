use Rattle.std.proofs.Common.{◌≡◌, ℕ, List, length}
use Rattle.seq_check.specs.EventSets.{AreOf}
use Rattle.seq_cover.proofs.LevelLemmas.{Climbs}
use Rattle.seq_cover.proofs.cycle.levels_to.Given as goal

abbrev pub invariant-loop-turn : goal.invariant-loop-turn
invariant-loop-turn l = (length l.levels.items ≡ l.turn) × ((pairs : List (ℕ × ℕ)) → AreOf l.ends pairs → Climbs l.count pairs l.goal l.near l.levels.items l.turn)
