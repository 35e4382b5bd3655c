use Rattle.std.proofs.Common.{◌≡◌, ℕ, length, [], get_or}
use Rattle.refutation.proofs.holders.Holders.reach.Given as goal

abbrev pub invariant-loop : goal.invariant-loop
invariant-loop l = record {
  long : l.counter ≡ length l.self-inside.params.items;
  same : (q : ℕ) → get_or l.self-inside.params.items q [] ≡ get_or l.initial.self-inside.params.items q [];
}
