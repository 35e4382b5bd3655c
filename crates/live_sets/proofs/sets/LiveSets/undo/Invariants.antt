use Rattle.std.proofs.Common.{◌≡◌, ◌+◌, ◌-◌, ◌≤◌, take, drop, length}
use Rattle.live_sets.specs.Trail.{live_count, put_back}
use Rattle.live_sets.proofs.sets.LiveSets.undo.Given as goal

abbrev pub invariant-loop-self : goal.invariant-loop-self
invariant-loop-self l = record {
  from : l.len ≤ l.self-inside.used;
  to : l.self-inside.used ≤ l.initial.self-inside.used;
  room : l.self-inside.places.items ≡ l.initial.self-inside.places.items;
  enough : l.self-inside.used + live_count l.self-inside.sets.items ≤ length l.self-inside.places.items;
  same : put_back (drop l.len (take l.self-inside.used l.initial.self-inside.places.items)) l.self-inside.sets.items
      ≡ put_back (drop l.len (take l.initial.self-inside.used l.initial.self-inside.places.items)) l.initial.self-inside.sets.items;
}

abbrev pub decreases-loop-self : goal.decreases-loop-self
decreases-loop-self l = l.self-inside.used - l.len
