-- What a seat of a table of marks holds, and what each kind of step does to it. A share is kept as two
-- numbers, n and k, and stands for n / 2^k. (This project's rule.)
use Rattle.std.specs.Prelude.{◌≡◌, ℕ, ◌+◌, ◌*◌, ◌^◌, Bool, ◌||◌, [], ◌∷◌, ◌++◌, if◌then◌else◌}
use Rattle.atomic_table.specs.Seated.{TableId}
use Rattle.definitions.specs.believed.Demand.{is_among}
use Rattle.shared_marks.specs.declared.holding.Holding.{Holding}

-- a seat is of a table and holds something
pub record SeatView : Type 0 where
  pub table : TableId
  pub holds : Holding

-- a table of marks and the number of its places
pub record TableView : Type 0 where
  pub table : TableId
  pub bits : ℕ

-- the seat with another holding
abbrev pub with_holding : SeatView → Holding → SeatView
with_holding seat held = record { table = seat.table; holds = held }

-- make: the first seat holds no place and the whole share
abbrev pub first_holding : Holding
first_holding = record { marked = []; seen = []; parts = 1; halvings = 0 }

-- mark: the place joins the marked ones
abbrev pub marking : ℕ → Holding → Holding
marking place held = record { marked = place ∷ held.marked; seen = held.seen; parts = held.parts; halvings = held.halvings }

-- note: where its bit is set, the place joins the marked ones
abbrev pub noting : ℕ → Bool → Holding → Holding
noting place is_set held = if is_set then marking place held else held

-- test: where its bit is set, the place joins the seen ones
abbrev pub testing : ℕ → Bool → Holding → Holding
testing place is_set held =
    if is_set then record { marked = held.marked; seen = place ∷ held.seen; parts = held.parts; halvings = held.halvings } else held

-- split: the giver keeps half its share; the new seat has the other half, and has seen what the giver
-- marked or saw
abbrev pub halved : Holding → Holding
halved held = record { marked = held.marked; seen = held.seen; parts = held.parts; halvings = held.halvings + 1 }

abbrev pub other_half : Holding → Holding
other_half held = record { marked = []; seen = held.marked ++ held.seen; parts = held.parts; halvings = held.halvings + 1 }

-- join: the taker has the lists of both and the sum of the shares, and nothing is left to the other
abbrev pub joined : Holding → Holding → Holding
joined held other = record {
  marked = held.marked ++ other.marked;
  seen = held.seen ++ other.seen;
  parts = held.parts * 2 ^ other.halvings + other.parts * 2 ^ held.halvings;
  halvings = held.halvings + other.halvings;
}

abbrev pub spent : Holding
spent = record { marked = []; seen = []; parts = 0; halvings = 0 }

-- the seat marked the place or saw it marked
abbrev pub is_held : Holding → ℕ → Bool
is_held held place = is_among held.marked place || is_among held.seen place

-- the share is 1
abbrev pub IsWhole : Holding → Type 0
IsWhole held = held.parts ≡ 2 ^ held.halvings
