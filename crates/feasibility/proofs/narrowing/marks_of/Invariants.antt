use Rattle.std.proofs.Common.{◌≡◌, ◌<◌, ℕ, false, length, get_or, take}
use Rattle.definitions.specs.believed.Demand.{is_among}
use Rattle.feasibility.proofs.narrowing.marks_of.Given as goal

abbrev pub invariant-loop-w : goal.invariant-loop-w
invariant-loop-w l = (length l.table ≡ l.count) × ((k : ℕ) → k < l.w → get_or l.table k false ≡ false)

abbrev pub invariant-loop-v : goal.invariant-loop-v
invariant-loop-v l = (length l.table ≡ l.count) × ((k : ℕ) → k < l.count → get_or l.table k false ≡ is_among (take l.v-index l.list) k)
