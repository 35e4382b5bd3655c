-- What calls add to the marked places of a seat. (This project's rule.)
use Rattle.std.specs.Prelude.{◌≡◌, ℕ, ◌+◌, ◌-◌, ◌*◌, ◌/◌, ◌^◌, ◌==◌, Bool, true, false, ◌||◌, ◌&&◌, List, nat_le}
use Rattle.std.specs.List.{list_any}
use Rattle.bit_table.specs.Words.{mark_at}
use Rattle.definitions.specs.believed.Demand.{is_among}
use Rattle.shared_marks.specs.declared.holding.Holding.{Holding}
use Rattle.shared_marks.specs.Seats.{SeatView, is_held}
use Rattle.shared_marks.specs.Steps.{has_bit}

-- these places join the marked ones of a seat, and all else that it holds stays
pub record Marks (adds : ℕ → Bool) (before after : SeatView) : Type 0 where
  pub table : after.table ≡ before.table
  pub marked : (place : ℕ) → is_among after.holds.marked place ≡ (is_among before.holds.marked place || adds place)
  pub seen : after.holds.seen ≡ before.holds.seen
  pub parts : after.holds.parts ≡ before.holds.parts
  pub halvings : after.holds.halvings ≡ before.holds.halvings

-- two shares are one number
abbrev pub IsSameShare : Holding → Holding → Type 0
IsSameShare held other = held.parts * 2 ^ other.halvings ≡ other.parts * 2 ^ held.halvings

-- these places join those that a seat holds: each is marked by it, or was seen to be marked already; it
-- marked no other place meanwhile, and its share stays
pub record Adds (adds : ℕ → Bool) (before after : SeatView) : Type 0 where
  pub table : after.table ≡ before.table
  pub held : (place : ℕ) → (is_held before.holds place || adds place) ≡ true → is_held after.holds place ≡ true
  pub marked : (place : ℕ) → is_among after.holds.marked place ≡ true → (is_among before.holds.marked place || adds place) ≡ true
  pub share : IsSameShare before.holds after.holds

-- the place is one of these ranks behind a base
abbrev pub are_behind : ℕ → List ℕ → ℕ → Bool
are_behind base ranks place = list_any (λ rank. base + rank == place) ranks

-- the place is one of this word, and its bit is set in a number; or it is one of the words from a given one on, and its
-- bit is set in these words, which stand for them
abbrev pub is_of_word : ℕ → ℕ → ℕ → Bool
is_of_word word bits place = (place / 64 == word) && has_bit bits place

abbrev pub is_in_words : ℕ → List ℕ → ℕ → Bool
is_in_words first words place = nat_le (64 * first) place && mark_at words (place - 64 * first)

-- no place
abbrev pub nothing : ℕ → Bool
nothing place = false
