-- Orders of events, and the sequences of events that they have. Events are given by their numbers.
-- (Sequence covering arrays: Kuhn and others 2012; precedences are this project's rule.)
use Rattle.std.specs.Prelude.{ℕ, zero, suc, ◌-◌, Bool, ◌&&◌, not, List, [], ◌∷◌, ◌++◌, map, length, ◌==◌, nat_lt, slice_index}
use Rattle.std.specs.List.{filter, flat_map, list_all, list_any, position_or_len, range_with_len}
use Rattle.seq_check.specs.believed.Events.{EventsView}

-- the event is one of the list
abbrev pub is_among : List ℕ → ℕ → Bool
is_among events event = list_any (λ other. other == event) events

-- the place of an event in an order, from 0; the length of the order where it isn't there
abbrev pub place : List ℕ → ℕ → ℕ
place order event = position_or_len (λ other. other == event) order

-- the first event of a pair stands before the second
abbrev pub keeps : List ℕ → ℕ × ℕ → Bool
keeps order pair = nat_lt (place order pair.0) (place order pair.1)

-- a list of n places on which each of the n events stands, so each of them once
abbrev pub has_each : ℕ → List ℕ → Bool
has_each n order = (length order == n) && list_all (is_among order) (range_with_len 0 n)

-- a permitted order: a list of all events, each once, in which each precedence is kept
abbrev pub is_permitted : EventsView → List ℕ → Bool
is_permitted e order = has_each (length e.names) order && list_all (keeps order) e.precedences

-- the steps of a sequence: the pairs of an earlier and a later of its events
abbrev pub steps : List ℕ → List (ℕ × ℕ)
steps [] = []
steps (event ∷ rest) = map (λ later. (event, later)) rest ++ steps rest

-- the order has the sequence: its events stand in the order in this order
abbrev pub has : List ℕ → List ℕ → Bool
has order sequence = list_all (keeps order) (steps sequence)

-- one of the orders has it
abbrev pub is_had : List (List ℕ) → List ℕ → Bool
is_had orders sequence = list_any (λ order. has order sequence) orders

-- a sequence: as many events as asked for, no two of them the same
abbrev pub is_sequence : EventsView → List ℕ → Bool
is_sequence e sequence =
    (length sequence == e.len) && list_all (λ event. nat_lt event (length e.names)) sequence && list_all (λ step. not (step.0 == step.1)) (steps sequence)

-- a list of distinct events, lengthened by each of the n events that it has not
abbrev pub lengthened : ℕ → List ℕ → List (List ℕ)
lengthened n front = map (λ event. front ++ event ∷ []) (filter (λ event. not (is_among front event)) (range_with_len 0 n))

-- all lists of so many distinct ones of n events, in lexicographic order
abbrev pub distinct_lists : ℕ → ℕ → List (List ℕ)
distinct_lists n zero = [] ∷ []
distinct_lists n (suc len) = flat_map (lengthened n) (distinct_lists n len)

-- all sequences, in lexicographic order
abbrev pub sequences : EventsView → List (List ℕ)
sequences e = distinct_lists (length e.names) e.len

-- the arrows of a sequence: its steps and all precedences
abbrev pub arrows : EventsView → List ℕ → List (ℕ × ℕ)
arrows e sequence = steps sequence ++ e.precedences

abbrev pub is_arrow : List (ℕ × ℕ) → ℕ × ℕ → Bool
is_arrow pairs pair = list_any (λ arrow. (arrow.0 == pair.0) && (arrow.1 == pair.1)) pairs

-- the pairs of neighbours in a list
abbrev pub neighbours : List ℕ → List (ℕ × ℕ)
neighbours [] = []
neighbours (event ∷ []) = []
neighbours (event ∷ next ∷ rest) = (event, next) ∷ neighbours (next ∷ rest)

-- a cycle along arrows: two events at least, of which the first and the last are the same, and from each an
-- arrow to the next
abbrev pub is_cycle : List (ℕ × ℕ) → List ℕ → Bool
is_cycle pairs cycle =
    nat_lt 1 (length cycle) && (slice_index cycle 0 == slice_index cycle (length cycle - 1)) && list_all (is_arrow pairs) (neighbours cycle)
