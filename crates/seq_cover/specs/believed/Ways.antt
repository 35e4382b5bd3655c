-- Ways along arrows between events, and the cycle that is told where there is one. (This project's rules.)
use Rattle.std.specs.Prelude.{ℕ, zero, suc, Bool, false, ◌&&◌, ◌||◌, List, [], ◌∷◌, find, Option, Some, None, is_some, ◌==◌}
use Rattle.std.specs.List.{range_with_len}
use Rattle.seq_check.specs.believed.Orders.{is_arrow}

-- a way of one step or more leads from the one event to the other: over the later arrows alone, or over the first
-- too, and that once
abbrev pub leads : List (ℕ × ℕ) → ℕ → ℕ → Bool
leads [] from to = false
leads (arrow ∷ arrows) from to =
    leads arrows from to || (((from == arrow.0) || leads arrows from arrow.0) && (leads arrows arrow.1 to || (arrow.1 == to)))

-- the least of n events to which an arrow leads from an event, and which is near
abbrev pub next_near : ℕ → List (ℕ × ℕ) → (ℕ → Bool) → ℕ → Option ℕ
next_near n arrows near event = find (λ next. is_arrow arrows (event, next) && near next) (range_with_len 0 n)

-- from the event a way of at most so many steps leads to the goal
abbrev pub is_within : ℕ → List (ℕ × ℕ) → ℕ → ℕ → ℕ → Bool
is_within n arrows goal zero event = event == goal
is_within n arrows goal (suc k) event = is_within n arrows goal k event || is_some (next_near n arrows (is_within n arrows goal k) event)

-- the least event to which an arrow leads, and from which at most so many steps lead to the goal
abbrev pub next_event : ℕ → List (ℕ × ℕ) → ℕ → ℕ → ℕ → Option ℕ
next_event n arrows goal k event = next_near n arrows (is_within n arrows goal k) event

-- an event, if there is one, and those behind it
abbrev pub with_rest : Option ℕ → (ℕ → List ℕ) → List ℕ
with_rest None rest = []
with_rest (Some next) rest = next ∷ rest next

-- the events of a way to the goal of so many steps, each the least from which those that are left are enough
abbrev pub way_back : ℕ → List (ℕ × ℕ) → ℕ → ℕ → ℕ → List ℕ
way_back n arrows goal zero event = []
way_back n arrows goal (suc k) event = with_rest (next_event n arrows goal k event) (way_back n arrows goal k)

-- the fewest steps that are enough behind the first one
abbrev pub fewest : ℕ → List (ℕ × ℕ) → ℕ → Option ℕ
fewest n arrows goal = find (λ k. is_some (next_event n arrows goal k goal)) (range_with_len 0 n)

-- the cycle from an event: of the fewest steps, and each time to the least event
abbrev pub cycle_by : ℕ → List (ℕ × ℕ) → ℕ → Option ℕ → List ℕ
cycle_by n arrows first None = first ∷ []
cycle_by n arrows first (Some k) = first ∷ way_back n arrows first (suc k) first

abbrev pub cycle_from : ℕ → List (ℕ × ℕ) → Option ℕ → Option (List ℕ)
cycle_from n arrows None = None
cycle_from n arrows (Some first) = Some (cycle_by n arrows first (fewest n arrows first))

-- the cycle along arrows between n events, where there is one: from the least event that lies on one
abbrev pub cycle_of : ℕ → List (ℕ × ℕ) → Option (List ℕ)
cycle_of n arrows = cycle_from n arrows (find (λ event. leads arrows event event) (range_with_len 0 n))
