-- Ways and levels as sets of events.
use Rattle.std.specs.Prelude.{◌≡◌, ℕ, ◌-◌, ◌<◌, Bool, ◌&&◌, List, length, nat_lt, Option, Some, None, Vec}
use Rattle.std.specs.declared.alloc.Global.{Global}
use Rattle.seq_check.specs.EventSets.{in_set, in_set_at}
use Rattle.seq_check.specs.declared.event_set.EventSet.{EventSet}
use Rattle.seq_cover.specs.believed.Ways.{fewest, is_within, leads}

-- the sets are the ways along these arrows
abbrev pub AreWays : List EventSet → List (ℕ × ℕ) → Type 0
AreWays sets pairs = (from to : ℕ) → from < 64 → in_set_at sets from to ≡ leads pairs from to

-- the set has those of n events that pass a test
abbrev pub Holds : EventSet → ℕ → (ℕ → Bool) → Type 0
Holds set n test = (event : ℕ) → event < 64 → in_set set event ≡ (nat_lt event n && test event)

-- the sets are those of the events from which at most 0, 1, .. steps lead to the goal
abbrev pub AreLevels : List EventSet → ℕ → List (ℕ × ℕ) → ℕ → Type 0
AreLevels levels n pairs goal = (k event : ℕ) → k < length levels → event < 64 → in_set_at levels k event ≡ (nat_lt event n && is_within n pairs goal k event)

-- the sets up to the fewest steps that are enough, where any are
abbrev pub IsFewest : ℕ → List (ℕ × ℕ) → ℕ → Option (Vec EventSet Global) → Type 0
IsFewest n pairs goal (Some levels) = (fewest n pairs goal ≡ Some (length levels.items - 1)) × (0 < length levels.items) × AreLevels levels.items n pairs goal
IsFewest n pairs goal None = fewest n pairs goal ≡ None
