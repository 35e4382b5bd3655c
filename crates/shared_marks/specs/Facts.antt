-- What holds of the words of a table of marks and of all its seats between any two steps. (This project's
-- rule.)
use Rattle.std.specs.Prelude.{◌≡◌, ℕ, ◌*◌, ◌-◌, ◌^◌, ◌≤◌, Bool, true, List, [], length, sum_by, All}
use Rattle.std.specs.List.{list_any}
use Rattle.bit_table.specs.Words.{mark_at}
use Rattle.definitions.specs.believed.Demand.{is_among}
use Rattle.shared_marks.specs.declared.holding.Holding.{Holding}

-- some seat marked the place
abbrev pub is_marked : List Holding → ℕ → Bool
is_marked seats place = list_any (λ held. is_among held.marked place) seats

-- some seat saw it marked
abbrev pub is_seen : List Holding → ℕ → Bool
is_seen seats place = list_any (λ held. is_among held.seen place) seats

-- how many parts a share is of 2^depth
abbrev pub parts_at : ℕ → Holding → ℕ
parts_at depth held = held.parts * 2 ^ (depth - held.halvings)

-- the shares, brought to a common power of two, add up to 1
pub record AddUp (seats : List Holding) : Type 0 where
  pub depth : ℕ
  pub enough : All (λ held. held.halvings ≤ depth) seats
  pub whole : sum_by (parts_at depth) seats ≡ 2 ^ depth

-- a seat of share 0 was joined away: it holds no place
abbrev pub IsIdle : Holding → Type 0
IsIdle held = held.parts ≡ 0 → (held.marked ≡ []) × (held.seen ≡ [])

-- there are as many words as were made; the bit of a place is set exactly if some seat marked it, and it is
-- set if some seat saw it so; the shares add up to 1, and a seat without a share holds nothing
pub record IsKept (count : ℕ) (words : List ℕ) (seats : List Holding) : Type 0 where
  pub as_many : length words ≡ count
  pub marked : (place : ℕ) → mark_at words place ≡ is_marked seats place
  pub seen : (place : ℕ) → is_seen seats place ≡ true → mark_at words place ≡ true
  pub shares : AddUp seats
  pub idle : All IsIdle seats
