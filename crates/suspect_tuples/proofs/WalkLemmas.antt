-- The loops over the values of a parameter and over the sets.
use Rattle.std.proofs.Common.{◌≡◌, ℕ, ◌+◌, ◌-◌, ◌<◌, ◌≤◌, List, [], ◌∷◌, ◌++◌, map, filter, drop, length, get_or, Option, refl, sym, ap, ◌∙◌, arith, append_assoc, zero-add}
use Rattle.std.specs.List.{flat_map, range_with_len}
use Rattle.std.proofs.lemmas.List.{append-nil}
use Rattle.std.proofs.lemmas.List.Concat.{flat_map-append}
use Rattle.std.proofs.lemmas.List.FromFn.{get_or-range_with_len, length-range_with_len}
use Rattle.value_text.proofs.ListLemmas.{range_with_len_more}
use Rattle.cov_model.specs.believed.Sound.{ModelView}
use Rattle.cov_model.specs.believed.Valid.{param_numbers}
use Rattle.definitions.specs.believed.Demand.{choose}
use Rattle.tuple_index.proofs.ChoiceLemmas.{choose_step, choose_end}
use Rattle.suspect_tuples.specs.believed.Suspects.{gives, tuples_on}
use Rattle.suspect_tuples.specs.Edges.{edges_behind, tuples_behind}
use Rattle.suspect_tuples.proofs.EdgeLemmas.{edges_append, edges_narrow}

-- what is found after one list more of a range
pub range_step : {X : Type 0} (f : ℕ → List X) (a n : ℕ) → flat_map f (range_with_len a (n + 1)) ≡ flat_map f (range_with_len a n) ++ f (a + n)
range_step f a n =
    ap (flat_map f) (range_with_len_more a n) ∙ flat_map-append f (range_with_len a n) ((a + n) ∷ [])
    ∙ ap (λ xs. flat_map f (range_with_len a n) ++ xs) (append-nil (f (a + n)))

-- the tuples that go on with one of the values of a parameter, up to a value
abbrev pub tuples_up_to : ModelView → ℕ → List ℕ → ℕ → List (List (ℕ × ℕ))
tuples_up_to m p set v = flat_map (λ w. map (λ rest. (p, w) ∷ rest) (tuples_on m set)) (range_with_len 0 v)

-- one value more
pub value_step : (m : ModelView) (passing rows kept : List (List (Option ℕ))) (before longer : List (ℕ × ℕ)) (p v : ℕ) (set : List ℕ)
    (start found after : List (List (ℕ × ℕ) × ℕ))
    → kept ≡ filter (λ row. gives row (p, v)) rows → longer ≡ before ++ (p, v) ∷ []
    → found ≡ start ++ edges_behind passing rows before (tuples_up_to m p set v)
    → after ≡ found ++ edges_behind passing kept longer (tuples_on m set)
    → after ≡ start ++ edges_behind passing rows before (tuples_up_to m p set (v + 1))
value_step m passing rows kept before longer p v set start found after narrowed pushed so_far added =
    let own : List (List (ℕ × ℕ)) = map (λ rest. (p, v) ∷ rest) (tuples_on m set) in
    let next : tuples_up_to m p set (v + 1) ≡ tuples_up_to m p set v ++ own =
    range_step (λ w. map (λ rest. (p, w) ∷ rest) (tuples_on m set)) 0 v
    ∙ ap (λ w. tuples_up_to m p set v ++ map (λ rest. (p, w) ∷ rest) (tuples_on m set)) (zero-add v) in
    let here : edges_behind passing kept longer (tuples_on m set) ≡ edges_behind passing rows before own =
    ap (λ k. edges_behind passing k longer (tuples_on m set)) narrowed
    ∙ ap (λ b. edges_behind passing (filter (λ row. gives row (p, v)) rows) b (tuples_on m set)) pushed
    ∙ sym (edges_narrow passing rows before (p, v) (tuples_on m set)) in
    added ∙ ap (λ xs. xs ++ edges_behind passing kept longer (tuples_on m set)) so_far
    ∙ ap (λ xs. (start ++ edges_behind passing rows before (tuples_up_to m p set v)) ++ xs) here
    ∙ append_assoc start (edges_behind passing rows before (tuples_up_to m p set v)) (edges_behind passing rows before own)
    ∙ ap (λ xs. start ++ xs) (sym (edges_append passing rows before (tuples_up_to m p set v) own))
    ∙ ap (λ ts. start ++ edges_behind passing rows before ts) (sym next)

-- a parameter more before what follows
behind_pushed : (m : ModelView) (set : List ℕ) (p : ℕ) (lists : List (List ℕ))
    → tuples_behind m set (map (λ rest. p ∷ rest) lists) ≡ tuples_behind m (set ++ p ∷ []) lists
behind_pushed m set p [] = refl
behind_pushed m set p (rest ∷ lists) =
    ap (λ ps. tuples_on m ps ++ tuples_behind m set (map (λ rest. p ∷ rest) lists)) (sym (append_assoc set (p ∷ []) rest))
    ∙ ap (λ ts. tuples_on m ((set ++ p ∷ []) ++ rest) ++ ts) (behind_pushed m set p lists)

-- one parameter more at a place of the set
pub set_step : (m : ModelView) (passing failing : List (List (Option ℕ))) (set longer : List ℕ) (p k : ℕ) (found after whole : List (List (ℕ × ℕ) × ℕ))
    → 0 < k → p < length m.params → longer ≡ set ++ p ∷ []
    → found ++ edges_behind passing failing [] (tuples_behind m set (choose k (drop p (param_numbers m)))) ≡ whole
    → after ≡ found ++ edges_behind passing failing [] (tuples_behind m longer (choose (k - 1) (drop (p + 1) (param_numbers m))))
    → after ++ edges_behind passing failing [] (tuples_behind m set (choose k (drop (p + 1) (param_numbers m)))) ≡ whole
set_step m passing failing set longer p k found after whole some within pushed so_far added =
    let params = param_numbers m in
    let here = choose (k - 1) (drop (p + 1) params) in
    let later = choose k (drop (p + 1) params) in
    let place : p < length params = omega (arith, length-range_with_len 0 (length m.params), within) in
    let is : p ≡ get_or params p p = sym (get_or-range_with_len 0 (length m.params) p p within ∙ zero-add p) in
    let opened : map (λ rest. p ∷ rest) here ++ later ≡ choose k (drop p params) =
    choose_step k p params p here [] (map (λ rest. p ∷ rest) here) (choose k (drop p params)) some place is refl refl refl in
    let parts : tuples_behind m set (choose k (drop p params)) ≡ tuples_behind m longer here ++ tuples_behind m set later =
    ap (tuples_behind m set) (sym opened) ∙ flat_map-append (λ rest. tuples_on m (set ++ rest)) (map (λ rest. p ∷ rest) here) later
    ∙ ap (λ ts. ts ++ tuples_behind m set later) (behind_pushed m set p here ∙ ap (λ ps. tuples_behind m ps here) (sym pushed)) in
    ap (λ xs. xs ++ edges_behind passing failing [] (tuples_behind m set later)) added
    ∙ append_assoc found (edges_behind passing failing [] (tuples_behind m longer here)) (edges_behind passing failing [] (tuples_behind m set later))
    ∙ ap (λ xs. found ++ xs) (sym (edges_append passing failing [] (tuples_behind m longer here) (tuples_behind m set later)))
    ∙ ap (λ ts. found ++ edges_behind passing failing [] ts) (sym parts) ∙ so_far

-- too few parameters are left
pub set_end : (m : ModelView) (passing failing : List (List (Option ℕ))) (set : List ℕ) (p k : ℕ) (found whole : List (List (ℕ × ℕ) × ℕ))
    → 0 < k → length m.params - (k - 1) ≤ p
    → found ++ edges_behind passing failing [] (tuples_behind m set (choose k (drop p (param_numbers m)))) ≡ whole → found ≡ whole
set_end m passing failing set p k found whole some past so_far =
    let params = param_numbers m in
    let none : [] ≡ choose k (drop p params) =
    choose_end k p params [] (choose k (drop p params)) some (omega (arith, length-range_with_len 0 (length m.params), past)) refl in
    sym (append-nil found) ∙ ap (λ lists. found ++ edges_behind passing failing [] (tuples_behind m set lists)) none ∙ so_far

-- the set is whole
pub set_whole : (m : ModelView) (passing failing : List (List (Option ℕ))) (set items : List ℕ)
    → edges_behind passing failing [] (tuples_on m set) ≡ edges_behind passing failing [] (tuples_behind m set (choose 0 items))
set_whole m passing failing set items =
    ap (edges_behind passing failing []) (ap (tuples_on m) (sym (append-nil set)) ∙ sym (append-nil (tuples_on m (set ++ []))))

-- the sets of one parameter more
pub size_step : (m : ModelView) (passing failing : List (List (Option ℕ))) (set : List ℕ) (fewer : ℕ) (found after : List (List (ℕ × ℕ) × ℕ))
    → found ≡ edges_behind passing failing [] (flat_map (tuples_on m) (flat_map (λ k. choose k (param_numbers m)) (range_with_len 1 fewer))) → set ≡ []
    → after ≡ found ++ edges_behind passing failing [] (tuples_behind m set (choose (fewer + 1) (drop 0 (param_numbers m))))
    → after ≡ edges_behind passing failing [] (flat_map (tuples_on m) (flat_map (λ k. choose k (param_numbers m)) (range_with_len 1 (fewer + 1))))
size_step m passing failing set fewer found after so_far none added =
    let ways : ℕ → List (List ℕ) = λ k. choose k (param_numbers m) in
    let before = flat_map ways (range_with_len 1 fewer) in
    let turned : fewer + 1 ≡ 1 + fewer = omega arith in
    let next : flat_map ways (range_with_len 1 (fewer + 1)) ≡ before ++ ways (1 + fewer) = range_step ways 1 fewer in
    added ∙ ap (λ ps. found ++ edges_behind passing failing [] (tuples_behind m ps (ways (fewer + 1)))) none
    ∙ ap (λ n. found ++ edges_behind passing failing [] (flat_map (tuples_on m) (ways n))) turned
    ∙ ap (λ xs. xs ++ edges_behind passing failing [] (flat_map (tuples_on m) (ways (1 + fewer)))) so_far
    ∙ sym (edges_append passing failing [] (flat_map (tuples_on m) before) (flat_map (tuples_on m) (ways (1 + fewer))))
    ∙ ap (edges_behind passing failing []) (sym (ap (flat_map (tuples_on m)) next ∙ flat_map-append (tuples_on m) before (ways (1 + fewer))))
