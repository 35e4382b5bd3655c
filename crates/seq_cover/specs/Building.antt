-- A row that is built, by the set of its events and the gains of the events behind it.
use Rattle.std.specs.Prelude.{◌≡◌, ℕ, ◌-◌, ◌*◌, ◌<◌, ◌≤◌, Bool, ◌&&◌, List, length, count_by, slice_index, All}
use Rattle.std.specs.List.{range_with_len}
use Rattle.seq_check.specs.EventSets.{OpenView, in_set, is_open}
use Rattle.seq_check.specs.believed.Orders.{is_among}
use Rattle.seq_check.specs.declared.event_set.EventSet.{EventSet}
use Rattle.seq_cover.specs.believed.OrderGrowth.{choose}

-- arrows are between events below a number
abbrev pub ExistBelow : ℕ → List (ℕ × ℕ) → Type 0
ExistBelow n pairs = All (λ pair. (pair.0 < n) × (pair.1 < n)) pairs

-- the set has the events of a row
abbrev pub ArePlaced : EventSet → List ℕ → Type 0
ArePlaced placed row = (event : ℕ) → event < 64 → in_set placed event ≡ is_among row event

-- no event stands in a row twice: what is counted along it is counted among its events
abbrev pub IsOnce : List ℕ → Type 0
IsOnce row = (all : ℕ) → all ≡ 64 → (test : ℕ → Bool) → count_by test row ≡ count_by (λ event. test event && is_among row event) (range_with_len 0 all)

-- how many open sequences an event ends whose other events stand in the row in order
abbrev pub open_gain : OpenView → List ℕ → ℕ → ℕ
open_gain o row event = count_by (λ front. is_open o front event) (choose (o.len - 1) row)

-- what is known of a row of so many events at most
pub record IsBuilt (o : OpenView) (n turn : ℕ) (row : List ℕ) (placed : EventSet) (gains : List ℕ) : Type 0 where
  pub exist : All (λ event. event < n) row
  pub placed_are : ArePlaced placed row
  pub once : IsOnce row
  pub short : length row ≤ turn
  pub long : length gains ≡ n
  pub gains_are : (event : ℕ) → event < n → slice_index gains event ≡ open_gain o row event
  pub few : All (λ gain. gain ≤ 64 * turn) gains
