-- Sets of events as the bits of a word; arrows, and the sequences that are still open, by such sets.
use Rattle.std.specs.Prelude.{◌≡◌, ℕ, ◌+◌, ◌*◌, ◌<◌, ◌⊎◌, Bool, true, false, List, [], ◌∷◌, ◌++◌, length, map, ◌==◌}
use Rattle.std.specs.Prelude.{count_by, nat_lt, if◌then◌else◌, slice_index, slice_index_or, All, Vec, Option, Some, None}
use Rattle.std.specs.Int.{bit_at}
use Rattle.std.specs.List.{list_all, range_with_len}
use Rattle.seq_check.specs.believed.Events.{EventsView}
use Rattle.seq_check.specs.believed.Orders.{is_arrow, is_permitted, is_sequence, place, steps}
use Rattle.seq_check.specs.believed.OrderReport.{ReportLine, Row, Never, Wrong}
use Rattle.seq_check.specs.declared.report_line.ReportLine as code
use Rattle.seq_check.specs.declared.report_line.ReportLine.TheVariants as lines
use Rattle.std.specs.declared.alloc.Global.{Global}
use Rattle.seq_check.specs.declared.event_set.EventSet.{EventSet}

-- the event of a number below 64 is in the set
abbrev pub in_set : EventSet → ℕ → Bool
in_set set event = bit_at set.bits event == 1

-- how many events are in it
unfoldable pub size_of : EventSet → ℕ
size_of set = count_by (in_set set) (range_with_len 0 64)

abbrev pub no_events : EventSet
no_events = record { bits = 0 }

-- in a list of sets the event is in that of a place
abbrev pub in_set_at : List EventSet → ℕ → ℕ → Bool
in_set_at sets place event = in_set (slice_index_or sets place no_events) event

-- the sets are the arrows of these pairs: for each event, the events that an arrow leads to
abbrev pub AreOf : List EventSet → List (ℕ × ℕ) → Type 0
AreOf sets pairs = (first second : ℕ) → in_set_at sets first second ≡ is_arrow pairs (first, second)

-- the sets are those arrows turned round: for each event, the events that an arrow leads from
abbrev pub AreBack : List EventSet → List (ℕ × ℕ) → Type 0
AreBack sets pairs = (first second : ℕ) → in_set_at sets second first ≡ is_arrow pairs (first, second)

-- the places in an order of the events below a number
abbrev pub places : ℕ → List ℕ → List ℕ
places n order = map (place order) (range_with_len 0 n)

-- the first event of a pair has a lower place than the second
abbrev pub is_lower : List ℕ → ℕ × ℕ → Bool
is_lower at pair = nat_lt (slice_index at pair.0) (slice_index at pair.1)

-- the events of a sequence have rising places
abbrev pub rises : List ℕ → List ℕ → Bool
rises at sequence = list_all (is_lower at) (steps sequence)

-- which sequences are open: for the events of a sequence but the first, the set of the first events
pub record OpenView : Type 0 where
  pub sets : List EventSet
  pub len : ℕ

abbrev pub set_count : ℕ → ℕ
set_count len = if len == 2 then 64 else 4096

abbrev pub AreSets : OpenView → Type 0
AreSets o = ((o.len ≡ 2) ⊎ (o.len ≡ 3)) × (length o.sets ≡ set_count o.len)

-- a sequence of two or three events by all of its events but the last, and the last one: the place of its set,
abbrev pub set_place : List ℕ → ℕ → ℕ
set_place [] last = last
set_place (first ∷ []) last = last
set_place (first ∷ second ∷ rest) last = 64 * second + last

-- its first event,
abbrev pub first_of : List ℕ → ℕ
first_of [] = 0
first_of (first ∷ rest) = first

-- and its second one
abbrev pub second_of : List ℕ → ℕ → ℕ
second_of [] last = last
second_of (first ∷ []) last = last
second_of (first ∷ second ∷ rest) last = second

-- the events of a sequence but the last, each below n
pub record IsFront (len n : ℕ) (front : List ℕ) : Type 0 where
  pub long : length front + 1 ≡ len
  pub exist : All (λ event. event < n) front

abbrev pub is_open : OpenView → List ℕ → ℕ → Bool
is_open o front last = in_set_at o.sets (set_place front last) (first_of front)

-- the sequences of n events that are open are those that pass a test
abbrev pub Tells : OpenView → ℕ → (List ℕ → Bool) → Type 0
Tells o n test = (front : List ℕ) (last : ℕ) → IsFront o.len n front → last < n → is_open o front last ≡ test (front ++ last ∷ [])

-- what is known of a row by the places of its events
abbrev pub IsRowIn : EventsView → ReportLine → Option (Vec ℕ Global) → Type 0
IsRowIn e line (Some at) = (order : List ℕ) × (line ≡ Row order) × (at.items ≡ places (length e.names) order)
IsRowIn e line None = line ≡ Wrong

abbrev pub ArePermitted : EventsView → List ℕ → Option (Vec ℕ Global) → Type 0
ArePermitted e order (Some at) = (is_permitted e order ≡ true) × (at.items ≡ places (length e.names) order)
ArePermitted e order None = is_permitted e order ≡ false

abbrev pub IsNeverIn : EventsView → ReportLine → Option (List ℕ) → Type 0
IsNeverIn e line (Some sequence) = (line ≡ Never sequence) × (is_sequence e sequence ≡ true)
IsNeverIn e line None = line ≡ Wrong

-- a line of a report as the code has it
abbrev pub IsLine : EventsView → ReportLine → code.ReportLine → Type 0
IsLine e line (lines.Row at) = IsRowIn e line (Some at)
IsLine e line (lines.Never sequence) = IsNeverIn e line (Some sequence)
IsLine e line lines.Wrong = line ≡ Wrong
