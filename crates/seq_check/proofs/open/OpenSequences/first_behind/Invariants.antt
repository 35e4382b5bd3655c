use Rattle.std.proofs.Common.{◌≡◌, ℕ, ◌<◌, ◌&&◌, false, not, nat_lt}
use Rattle.seq_check.specs.EventSets.{is_open}
use Rattle.seq_check.specs.believed.Orders.{is_among}
use Rattle.seq_check.proofs.open.OpenSequences.first_behind.Given as goal

abbrev pub invariant-loop-last : goal.invariant-loop-last
invariant-loop-last l = (k : ℕ) → k < l.last-counter → (is_open l.self l.front k && (nat_lt k l.count && not (is_among l.front k))) ≡ false
