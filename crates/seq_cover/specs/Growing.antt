-- How growth stands between two sequences.
use Rattle.std.specs.Prelude.{◌≡◌, ℕ, not, List, length}
use Rattle.seq_check.specs.believed.Events.{EventsView}
use Rattle.seq_check.specs.EventSets.{AreBack, AreOf, OpenView, Tells}
use Rattle.seq_check.specs.believed.Orders.{is_had}
use Rattle.seq_check.specs.declared.event_set.EventSet.{EventSet}
use Rattle.seq_cover.specs.Sets.{AreWays}

-- the open sequences are those that no row has
pub record IsLeft (e : EventsView) (o : OpenView) (rows : List (List ℕ)) : Type 0 where
  pub len : o.len ≡ e.len
  pub tells : Tells o (length e.names) (λ s. not (is_had rows s))

-- the sets are the ways along the precedences, their ends, and the precedences turned round
pub record AreFixed (e : EventsView) (ways ends back : List EventSet) : Type 0 where
  pub ways_are : AreWays ways e.precedences
  pub ends_are : AreOf ends e.precedences
  pub back_are : AreBack back e.precedences
