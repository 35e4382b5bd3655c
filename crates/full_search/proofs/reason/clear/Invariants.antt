use Rattle.std.proofs.Common.{◌≡◌, ◌<◌, ℕ, None, length, get_or}
use Rattle.full_search.proofs.reason.clear.Given as goal

-- the parameters before this one have no value
abbrev pub invariant-loop-q : goal.invariant-loop-q
invariant-loop-q l = record {
  count : l.count ≡ length l.fn.why;
  long : length l.why ≡ length l.fn.why;
  none : (r : ℕ) → r < l.q → get_or l.why r None ≡ None;
}
