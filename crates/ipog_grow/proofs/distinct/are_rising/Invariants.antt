use Rattle.std.proofs.Common.{◌≡◌, ℕ, ◌+◌, ◌<◌, true, [], get_or}
use Rattle.ipog_grow.specs.Rows.{stands_before}
use Rattle.ipog_grow.proofs.distinct.are_rising.Given as goal

-- the rows up to this one rise
abbrev pub invariant-loop-i : goal.invariant-loop-i
invariant-loop-i l = (k : ℕ) → k + 1 < l.i → stands_before (get_or l.rows k []) (get_or l.rows (k + 1) []) ≡ true
