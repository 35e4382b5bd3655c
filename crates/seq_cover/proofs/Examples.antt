-- What the definitions say of a few events, worked out from the definitions alone.
use Rattle.std.proofs.Common.{◌≡◌, true, false, [], ◌∷◌, codes, Some, None, refl}
use Rattle.seq_check.specs.believed.Events.{EventsView}
use Rattle.seq_check.specs.believed.Orders.{arrows}
use Rattle.seq_cover.specs.believed.OrderGrowth.{can_be_placed, choose, gain, grown}
use Rattle.seq_cover.specs.believed.Ways.{cycle_of, is_within, leads}

abbrev three : EventsView
three = record { names = codes "a" ∷ codes "b" ∷ codes "c" ∷ []; precedences = (0, 1) ∷ []; len = 2 }

abbrev two : EventsView
two = record { names = codes "a" ∷ codes "b" ∷ []; precedences = (0, 0) ∷ []; len = 2 }

-- ---- ways

over_two : leads ((0, 1) ∷ (1, 2) ∷ []) 0 2 ≡ true
over_two = refl

not_back : leads ((0, 1) ∷ (1, 2) ∷ []) 2 0 ≡ false
not_back = refl

round : leads ((0, 1) ∷ (1, 2) ∷ (2, 0) ∷ []) 1 1 ≡ true
round = refl

two_steps : is_within 3 ((0, 1) ∷ (1, 2) ∷ []) 2 2 0 ≡ true
two_steps = refl

too_few_steps : is_within 3 ((0, 1) ∷ (1, 2) ∷ []) 2 1 0 ≡ false
too_few_steps = refl

-- ---- cycles

no_cycle : cycle_of 3 (arrows three (2 ∷ 0 ∷ [])) ≡ None
no_cycle = refl

a_cycle : cycle_of 3 (arrows three (1 ∷ 0 ∷ [])) ≡ Some (0 ∷ 1 ∷ 0 ∷ [])
a_cycle = refl

-- an event before itself
a_loop : cycle_of 2 (arrows two (1 ∷ 0 ∷ [])) ≡ Some (0 ∷ 0 ∷ [])
a_loop = refl

-- of a cycle of two steps and one of three the first is told, and of two of two steps that with the lesser event
shortest : cycle_of 4 ((1, 3) ∷ (3, 2) ∷ (2, 1) ∷ (2, 3) ∷ (3, 1) ∷ []) ≡ Some (1 ∷ 3 ∷ 1 ∷ [])
shortest = refl

least : cycle_of 3 ((0, 2) ∷ (2, 0) ∷ (0, 1) ∷ (1, 0) ∷ []) ≡ Some (0 ∷ 1 ∷ 0 ∷ [])
least = refl

-- ---- growth

waits : can_be_placed (arrows three (2 ∷ 0 ∷ [])) [] 1 ≡ false
waits = refl

goes_first : can_be_placed (arrows three (2 ∷ 0 ∷ [])) [] 2 ≡ true
goes_first = refl

pairs_of : choose 2 (2 ∷ 0 ∷ 1 ∷ []) ≡ (2 ∷ 0 ∷ []) ∷ (2 ∷ 1 ∷ []) ∷ (0 ∷ 1 ∷ []) ∷ []
pairs_of = refl

gained : gain 2 ((0 ∷ 1 ∷ 2 ∷ []) ∷ []) (2 ∷ []) 0 ≡ 1
gained = refl

had_before : gain 2 ((0 ∷ 1 ∷ 2 ∷ []) ∷ []) (0 ∷ []) 1 ≡ 0
had_before = refl

three_grown : grown three
    ≡ record { rows = (0 ∷ 1 ∷ 2 ∷ []) ∷ (2 ∷ 0 ∷ 1 ∷ []) ∷ []; never = record { sequence = 1 ∷ 0 ∷ []; cycle = 0 ∷ 1 ∷ 0 ∷ [] } ∷ [] }
three_grown = refl

two_grown : grown two
    ≡ record { rows = []; never = record { sequence = 0 ∷ 1 ∷ []; cycle = 0 ∷ 0 ∷ [] } ∷ record { sequence = 1 ∷ 0 ∷ []; cycle = 0 ∷ 0 ∷ [] } ∷ [] }
two_grown = refl

-- three events in all orders of two, and of three
all_pairs : (grown (record { names = codes "a" ∷ codes "b" ∷ codes "c" ∷ []; precedences = []; len = 2 })).rows
    ≡ (0 ∷ 1 ∷ 2 ∷ []) ∷ (1 ∷ 0 ∷ 2 ∷ []) ∷ (1 ∷ 2 ∷ 0 ∷ []) ∷ (0 ∷ 2 ∷ 1 ∷ []) ∷ []
all_pairs = refl

all_triples : (grown (record { names = codes "a" ∷ codes "b" ∷ codes "c" ∷ []; precedences = []; len = 3 })).rows
    ≡ (0 ∷ 1 ∷ 2 ∷ []) ∷ (0 ∷ 2 ∷ 1 ∷ []) ∷ (1 ∷ 0 ∷ 2 ∷ []) ∷ (1 ∷ 2 ∷ 0 ∷ []) ∷ (2 ∷ 0 ∷ 1 ∷ []) ∷ (2 ∷ 1 ∷ 0 ∷ []) ∷ []
all_triples = refl
