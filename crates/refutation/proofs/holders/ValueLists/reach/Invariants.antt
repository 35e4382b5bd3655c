use Rattle.std.proofs.Common.{◌≡◌, ℕ, length, [], get_or}
use Rattle.refutation.proofs.holders.ValueLists.reach.Given as goal

abbrev pub invariant-loop : goal.invariant-loop
invariant-loop l = record {
  long : l.counter ≡ length l.self-inside.lists.items;
  same : (w : ℕ) → get_or l.self-inside.lists.items w [] ≡ get_or l.initial.self-inside.lists.items w [];
}
