-- What a seat holds of a table of marks that no other seat holds. (This project's rule.)
use Rattle.std.specs.Prelude.{◌≡◌, ℕ, List, take, Option}
use Rattle.atomic_table.specs.Seated.{TableId}
use Rattle.cov_model.specs.believed.Sound.{ModelView}
use Rattle.definitions.specs.believed.Demand.{is_among}
use Rattle.shared_marks.specs.Seats.{IsWhole, SeatView}
use Rattle.shared_marks.specs.Served.{is_served_at}

-- the places that it marked and its share stay, where the table is only looked at
pub record KeepsMarked (before after : SeatView) : Type 0 where
  pub table : after.table ≡ before.table
  pub marked : after.holds.marked ≡ before.holds.marked
  pub parts : after.holds.parts ≡ before.holds.parts
  pub halvings : after.holds.halvings ≡ before.holds.halvings

-- it has the whole table, and marked the places of what so many of the first rows cover
pub record HoldsCovered (m : ModelView) (rows : List (List (Option ℕ))) (first : ℕ) (own : TableId) (seat : SeatView) : Type 0 where
  pub table : seat.table ≡ own
  pub marked : (place : ℕ) → is_among seat.holds.marked place ≡ is_served_at m (take first rows) place
  pub whole : IsWhole seat.holds
