use Rattle.std.proofs.Common.{◌≡◌, ℕ, ◌+◌, ◌<◌, true, [], get_or}
use Rattle.std.specs.Ordering.{is_lt}
use Rattle.definitions.proofs.SetOrder.{lex}
use Rattle.tuple_index.proofs.order.are_in_order.Given as goal

-- the sets up to this one stand each before the next
abbrev pub invariant-loop-i : goal.invariant-loop-i
invariant-loop-i l = (k : ℕ) → k + 1 < l.i → is_lt (lex (get_or l.sets k []) (get_or l.sets (k + 1) [])) ≡ true
