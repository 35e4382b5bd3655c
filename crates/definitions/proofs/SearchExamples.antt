-- Plain search and its cost, computed on small models.
use Rattle.std.specs.Prelude.{◌≡◌, ℕ, suc, true, false, not, List, [], ◌∷◌, Option, Some, None, codes, refl, slice_index_or, if◌then◌else◌}
use Rattle.cov_model.specs.believed.Views.{Plain, IfThen}
use Rattle.cov_model.specs.declared.constraint.Rel.TheVariants.{Eq, Lt}
use Rattle.cov_model.specs.declared.slice.Slice.TheVariants.{Positive, Negative}
use Rattle.cov_model.specs.believed.Sound.{ModelView}
use Rattle.cov_model.specs.believed.Rows.{is_assigned}
use Rattle.definitions.specs.declared.effort.Effort.TheVariants.{Within}
use Rattle.definitions.specs.believed.Search.{plain_search, plain_cost, first_measured_over, constrained_params, breaks_a_rule, try_values, Outcome}
use Rattle.definitions.specs.believed.Completion.{preferred_values}
use Rattle.definitions.proofs.Models.{twin, barred}
use Rattle.definitions.proofs.Examples.{model, two, param, value, negative_value, with_rules, number, is, declared}

abbrev cost : List (Option ℕ) → ℕ
cost cells = plain_cost twin (declared twin) Positive cells

twin-second : cost (None ∷ Some 1 ∷ None ∷ []) ≡ 4
twin-second = refl

twin-first : cost (Some 0 ∷ None ∷ None ∷ []) ≡ 3
twin-first = refl

twin-all : cost (None ∷ None ∷ None ∷ []) ≡ 7
twin-all = refl

twin-leaf : cost (Some 1 ∷ Some 1 ∷ Some 1 ∷ []) ≡ 1
twin-leaf = refl

twin-fails : (plain_search twin (declared twin) Positive (Some 0 ∷ None ∷ None ∷ [])).found ≡ false
twin-fails = refl

twin-succeeds : (plain_search twin (declared twin) Positive (None ∷ Some 1 ∷ None ∷ [])).found ≡ true
twin-succeeds = refl

-- with the second value first it succeeds at once
twin-preferred : plain_cost twin ((1 ∷ 0 ∷ []) ∷ (0 ∷ 1 ∷ []) ∷ (0 ∷ 1 ∷ []) ∷ []) Positive (None ∷ Some 1 ∷ None ∷ []) ≡ 3
twin-preferred = refl

-- a search that doesn't look ahead would visit 7 nodes where this one visits 3
abbrev blind : List (List ℕ) → List ℕ → List (Option ℕ) → Outcome
blind values [] cells = record { found = not (breaks_a_rule twin cells); cost = 1 }
blind values (p ∷ params) cells =
    let below = try_values (blind values params) cells p (slice_index_or values p []) in
    if is_assigned cells p then blind values params cells
    else if breaks_a_rule twin cells then record { found = false; cost = 1 }
    else record { found = below.found; cost = suc below.cost }

twin-blind : (blind (preferred_values twin (declared twin) Positive) (0 ∷ 1 ∷ 2 ∷ []) (Some 0 ∷ None ∷ None ∷ [])).cost ≡ 7
twin-blind = refl

-- B is in no constraint
barred-params : constrained_params barred ≡ 0 ∷ 2 ∷ []
barred-params = refl

-- A's first value is visited though it isn't live
barred-third : plain_cost barred (declared barred) Positive (None ∷ Some 0 ∷ Some 1 ∷ []) ≡ 3
barred-third = refl

-- no value of C is live
barred-first : plain_cost barred (declared barred) Positive (Some 0 ∷ Some 0 ∷ None ∷ []) ≡ 1
barred-first = refl

barred-second : plain_cost barred (declared barred) Positive (Some 0 ∷ Some 1 ∷ None ∷ []) ≡ 1
barred-second = refl

-- a node succeeds as soon as the parameters that constraints name are assigned
barred-assigned : plain_search barred (declared barred) Positive (Some 1 ∷ None ∷ Some 0 ∷ []) ≡ record { found = true; cost = 1 }
barred-assigned = refl

-- a parameter with negative values alone, which no constraint names, has no live value in the positive slice
abbrev negative : ModelView
negative = with_rules (model (param (codes "A") (negative_value (codes "1") ∷ negative_value (codes "2") ∷ []) ∷ two (codes "B") ∷ []) 1 [] [])
    (Plain (is 1 Lt (number 1)) ∷ [])

negative-fails : plain_search negative (declared negative) Positive (None ∷ None ∷ []) ≡ record { found = false; cost = 1 }
negative-fails = refl

negative-succeeds : plain_search negative (declared negative) (Negative 0 1) (Some 1 ∷ None ∷ []) ≡ record { found = true; cost = 2 }
negative-succeeds = refl

-- parameters are taken in declared order, also where a constraint names a later one first
abbrev turned : ModelView
turned = with_rules (model (param (codes "A") (value (codes "0") ∷ value (codes "1") ∷ value (codes "2") ∷ []) ∷ two (codes "B") ∷ []) 2 [] [])
    (IfThen (is 1 Eq (number 0)) (is 0 Eq (number 2)) ∷ [])

turned-cost : plain_cost turned (declared turned) Positive (None ∷ None ∷ []) ≡ 4
turned-cost = refl

-- the first demanded tuple that costs more than 4, 3 and 2 nodes
twin-measured-four : first_measured_over twin (Within 4) ≡ None
twin-measured-four = refl

twin-measured-three : first_measured_over twin (Within 3) ≡ Some (None ∷ Some 0 ∷ None ∷ [])
twin-measured-three = refl

twin-measured-two : first_measured_over twin (Within 2) ≡ Some (Some 0 ∷ None ∷ None ∷ [])
twin-measured-two = refl
