-- No order keeps all arrows of a cycle.
use Rattle.std.proofs.Common.{◌≡◌, ℕ, suc, ◌-◌, ◌<◌, true, ◌&&◌, List, [], ◌∷◌, length, get_or, eqb, nat_lt, ap, subst₂, inl, inr, ◌∙◌, arith}
use Rattle.std.specs.List.{list_all}
use Rattle.std.proofs.lemmas.Bool.{and_from, and_parts, eqb-true, false_from_ne_true, ltb-true, or_cases, false≢true}
use Rattle.std.proofs.lemmas.List.Folds.{list_all-append}
use Rattle.seq_check.specs.believed.Events.{EventsView}
use Rattle.seq_check.specs.believed.Orders.{arrows, has, has_each, is_arrow, is_cycle, keeps, neighbours, place, steps}
use Rattle.seq_cover.specs.believed.Covering.{HasNoOrder}

-- an arrow is kept
kept_arrow : (order : List ℕ) (pairs : List (ℕ × ℕ)) (from to : ℕ) → list_all (keeps order) pairs ≡ true → is_arrow pairs (from, to) ≡ true → place order from < place order to
kept_arrow order [] from to kept is = absurd (false≢true is)
kept_arrow order (arrow ∷ pairs) from to kept is =
    let both = and_parts (keeps order arrow) (list_all (keeps order) pairs) kept in
    elim (or_cases (eqb arrow.0 from && eqb arrow.1 to) (is_arrow pairs (from, to)) is) [
      | inl here ↦
          let parts = and_parts (eqb arrow.0 from) (eqb arrow.1 to) here in
          let low = ltb-true (place order arrow.0) (place order arrow.1) both.0 in
          subst₂ (λ a b. place order a < place order b) (eqb-true arrow.0 from parts.0) (eqb-true arrow.1 to parts.1) low
      | inr later ↦ kept_arrow order pairs from to both.1 later
    ]

-- along arrows the places rise
rising : (order : List ℕ) (pairs : List (ℕ × ℕ)) (x y : ℕ) (rest : List ℕ) → list_all (keeps order) pairs ≡ true → list_all (is_arrow pairs) (neighbours (x ∷ y ∷ rest)) ≡ true
    → place order x < place order (get_or (x ∷ y ∷ rest) (suc (length rest)) 0)
rising order pairs x y [] kept along = kept_arrow order pairs x y kept (and_parts (is_arrow pairs (x, y)) true along).0
rising order pairs x y (z ∷ rest) kept along =
    let parts = and_parts (is_arrow pairs (x, y)) (list_all (is_arrow pairs) (neighbours (y ∷ z ∷ rest))) along in
    let first = kept_arrow order pairs x y kept parts.0 in
    let later = rising order pairs y z rest kept parts.1 in
    omega (arith, first, later)

no_round : (order : List ℕ) (pairs : List (ℕ × ℕ)) (cycle : List ℕ) → list_all (keeps order) pairs ≡ true → is_cycle pairs cycle ≡ true → ⊥
no_round order pairs [] kept is = false≢true is
no_round order pairs (x ∷ []) kept is = false≢true is
no_round order pairs (x ∷ y ∷ rest) kept is =
    let both = and_parts (nat_lt 1 (length (x ∷ y ∷ rest)) && eqb x (get_or (x ∷ y ∷ rest) (length (x ∷ y ∷ rest) - 1) 0)) (list_all (is_arrow pairs) (neighbours (x ∷ y ∷ rest))) is in
    let ends = eqb-true x (get_or (x ∷ y ∷ rest) (length (x ∷ y ∷ rest) - 1) 0)
    (and_parts (nat_lt 1 (length (x ∷ y ∷ rest))) (eqb x (get_or (x ∷ y ∷ rest) (length (x ∷ y ∷ rest) - 1) 0)) both.0).1 in
    let back : length (x ∷ y ∷ rest) - 1 ≡ suc (length rest) = omega arith in
    let rises = rising order pairs x y rest kept both.1 in
    let same : place order x ≡ place order (get_or (x ∷ y ∷ rest) (suc (length rest)) 0) = ap (place order) (ends ∙ ap (λ i. get_or (x ∷ y ∷ rest) i 0) back) in
    omega (arith, rises, same)

-- so no permitted order has a sequence whose steps make a cycle with the precedences
pub no_order : (e : EventsView) (sequence cycle : List ℕ) → is_cycle (arrows e sequence) cycle ≡ true → HasNoOrder e sequence
no_order e sequence cycle is = λ order permitted. false_from_ne_true (has order sequence)
    (λ had.
    let kept = (and_parts (has_each (length e.names) order) (list_all (keeps order) e.precedences) permitted).1 in
    no_round order (arrows e sequence) cycle
    (list_all-append (keeps order) (steps sequence) e.precedences ∙ and_from (has order sequence) (list_all (keeps order) e.precedences) had kept) is)
