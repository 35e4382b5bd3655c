-- The growth of rows: for each sequence that no row has, in their order, a row is built that has it, or the
-- sequence is set aside with a cycle. (Greedy growth of sequence covering arrays follows Kuhn and others 2012;
-- precedences, cycles and ties are this project's rules.)
use Rattle.std.specs.Prelude.{ℕ, zero, suc, ◌-◌, Bool, ◌&&◌, ◌||◌, not, List, [], ◌∷◌, ◌++◌, map}
use Rattle.std.specs.Prelude.{length, Option, Some, None, ◌==◌, fold, count_by, nat_lt, if◌then◌else◌}
use Rattle.std.specs.List.{filter, list_all, range_with_len}
use Rattle.seq_check.specs.believed.Events.{EventsView}
use Rattle.seq_check.specs.believed.Orders.{arrows, is_among, is_had, sequences}
use Rattle.seq_cover.specs.believed.Ways.{cycle_of}
use Rattle.seq_cover.specs.declared.suite.OrderSuite.{OrderSuite}

-- an event can be placed if it isn't placed yet, and every event with an arrow to it is
abbrev pub can_be_placed : List (ℕ × ℕ) → List ℕ → ℕ → Bool
can_be_placed pairs row event = not (is_among row event) && list_all (λ arrow. not (arrow.1 == event) || is_among row arrow.0) pairs

-- all ways to take k of the events, each in their order
abbrev pub choose : ℕ → List ℕ → List (List ℕ)
choose zero events = [] ∷ []
choose (suc k) [] = []
choose (suc k) (event ∷ events) = map (λ rest. event ∷ rest) (choose k events) ++ choose (suc k) events

-- the gain of an event: how many sequences it ends that no row has and whose other events stand in the row in order
abbrev pub gain : ℕ → List (List ℕ) → List ℕ → ℕ → ℕ
gain len rows row event = count_by (λ front. not (is_had rows (front ++ event ∷ []))) (choose (len - 1) row)

-- an event is better than the best so far only by a greater gain, so of those of the greatest gain the first is taken
abbrev pub better : (ℕ → ℕ) → Option ℕ → ℕ → Option ℕ
better gains None event = Some event
better gains (Some best) event = if nat_lt (gains best) (gains event) then Some event else Some best

-- the next event of a row among n events, if one can be placed
abbrev pub next_placed : ℕ → ℕ → List (ℕ × ℕ) → List (List ℕ) → List ℕ → Option ℕ
next_placed n len pairs rows row = fold (better (gain len rows row)) None (filter (can_be_placed pairs row) (range_with_len 0 n))

-- a row with one event more, if there is one, and then built on
abbrev pub with_next : Option ℕ → List ℕ → (List ℕ → List ℕ) → List ℕ
with_next None row rest = row
with_next (Some event) row rest = rest (row ++ event ∷ [])

-- a row built place by place, up to so many more places
abbrev pub built_from : ℕ → ℕ → List (ℕ × ℕ) → List (List ℕ) → ℕ → List ℕ → List ℕ
built_from n len pairs rows zero row = row
built_from n len pairs rows (suc k) row = with_next (next_placed n len pairs rows row) row (built_from n len pairs rows k)

-- a sequence that no row has: with a cycle it is set aside, and else a row is built that has it
abbrev pub settled_by : EventsView → OrderSuite → List ℕ → Option (List ℕ) → OrderSuite
settled_by e suite sequence (Some cycle) = record { rows = suite.rows; never = suite.never ++ record { sequence = sequence; cycle = cycle } ∷ [] }
settled_by e suite sequence None =
    record { rows = suite.rows ++ built_from (length e.names) e.len (arrows e sequence) suite.rows (length e.names) [] ∷ []; never = suite.never }

abbrev pub settled : EventsView → OrderSuite → List ℕ → OrderSuite
settled e suite sequence = if is_had suite.rows sequence then suite else settled_by e suite sequence (cycle_of (length e.names) (arrows e sequence))

abbrev pub nothing_grown : OrderSuite
nothing_grown = record { rows = []; never = [] }

-- growth takes the sequences in their order: once one is had or set aside, it stays so
abbrev pub grown : EventsView → OrderSuite
grown e = fold (settled e) nothing_grown (sequences e)
