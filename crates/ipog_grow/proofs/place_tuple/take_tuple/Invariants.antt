use Rattle.std.proofs.Common.{◌≡◌, ℕ, None, false, drop, length, get_or}
use Rattle.definitions.specs.believed.Demand.{is_among}
use Rattle.ipog_grow.proofs.place_tuple.take_tuple.Given as goal

-- only those that are left may have values
abbrev pub invariant-loop-p : goal.invariant-loop-p
invariant-loop-p l = record {
  long : length l.into ≡ length l.fn.into;
  none : (q : ℕ) → is_among (drop l.p-index l.given) q ≡ false → get_or l.into q None ≡ None;
}
