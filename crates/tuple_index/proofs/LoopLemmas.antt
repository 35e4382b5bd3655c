-- The steps and the ends of the loops over the members of a set.
use Rattle.std.proofs.Common.{sum_by, ◌≡◌, ℕ, ◌+◌, ◌*◌, ◌-◌, ◌^◌, ◌<◌, ◌≤◌, true, false, List, [], ◌∷◌, All, drop, length, get_or, ◌∙◌, sym, ap, arith}
use Rattle.std.specs.Prelude.{◌==◌, if◌then◌else◌}
use Rattle.std.specs.List.{AllByRecursion}
use Rattle.std.proofs.lemmas.List.Elements.{All-from_recursion, All-get_or}
use Rattle.std.proofs.lemmas.Bool.Decides.{nat_tests}
use Rattle.std.proofs.lemmas.List.Sums.{get_or-le-sum_by, sum_by-cons}
use Rattle.std.proofs.lemmas.List.{at_drop_more, at_drop_all, drop_more}
use Rattle.tuple_index.specs.Plan.{PlanView}
use Rattle.tuple_index.specs.Places.{RisesFrom, ways, place, place_of, negative_ways, ways_before}
use Rattle.tuple_index.specs.believed.PlanFault.{saturated}
use Rattle.tuple_index.proofs.SaturatedLemmas.{saturated-factor, saturated-digit}

-- the ways of the members so far, times those of the rest
pub ways_step : (values : ℕ → List ℕ) (members : List ℕ) (i n r next t : ℕ) → i < length members → r ≡ length (values (get_or members i 0))
    → next ≡ saturated (n * r)
    → saturated (n * ways values (drop i members)) ≡ t → saturated (next * ways values (drop (i + 1) members)) ≡ t
ways_step values members i n r next t within radix product before =
    ap (λ k. saturated (k * ways values (drop (i + 1) members))) product
    ∙ saturated-factor n r (ways values (drop (i + 1) members))
    ∙ ap (λ k. saturated (n * (k * ways values (drop (i + 1) members)))) radix
    ∙ sym (at_drop_more (λ ms. saturated (n * ways values ms)) members i 0 within) ∙ before

pub ways_end : (values : ℕ → List ℕ) (members : List ℕ) (i n t : ℕ) → length members ≤ i → n ≤ 2 ^ 64 - 1 → saturated (n * ways values (drop i members)) ≡ t → n ≡ t
ways_end values members i n t past fits before =
    let last : saturated (n * ways values (drop i members)) ≡ saturated (n * 1) = at_drop_all (λ ms. saturated (n * ways values ms)) members i past in
    let exact : saturated (n * 1) ≡ n = omega (arith, fits) in
    sym exact ∙ sym last ∙ before

-- the place of the values so far, and that of the rest
pub place_step : (values : ℕ → List ℕ) (members chosen : List ℕ) (i n r d product next t : ℕ) → i < length members → i < length chosen
    → r ≡ length (values (get_or members i 0)) → d ≡ place_of (values (get_or members i 0)) (get_or chosen i 0)
    → product ≡ saturated (n * r) → next ≡ saturated (product + d)
    → saturated (n * ways values (drop i members) + place values (drop i members) (drop i chosen)) ≡ t
    → saturated (next * ways values (drop (i + 1) members) + place values (drop (i + 1) members) (drop (i + 1) chosen)) ≡ t
place_step values members chosen i n r d product next t within in_chosen radix digit multiplied added before =
    let w = ways values (drop (i + 1) members) in
    let p = place values (drop (i + 1) members) (drop (i + 1) chosen) in
    let now : next ≡ saturated (saturated (n * r) + d) = added ∙ ap (λ k. saturated (k + d)) multiplied in
    let opened : saturated (n * ways values (drop i members) + place values (drop i members) (drop i chosen))
    ≡ saturated (n * (length (values (get_or members i 0)) * w) + (place_of (values (get_or members i 0)) (get_or chosen i 0) * w + p))
    = ap (λ ms. saturated (n * ways values ms + place values ms (drop i chosen))) (drop_more members i 0 within)
    ∙ ap (λ cs. saturated (n * ways values (get_or members i 0 ∷ drop (i + 1) members) + place values (get_or members i 0 ∷ drop (i + 1) members) cs))
    (drop_more chosen i 0 in_chosen) in
    ap (λ k. saturated (k * w + p)) now
    ∙ saturated-digit n r d w p
    ∙ ap (λ k. saturated (n * (k * w) + (d * w + p))) radix
    ∙ ap (λ k. saturated (n * (length (values (get_or members i 0)) * w) + (k * w + p))) digit
    ∙ sym opened ∙ before

pub place_end : (values : ℕ → List ℕ) (members chosen : List ℕ) (i n t : ℕ) → length members ≤ i → n ≤ 2 ^ 64 - 1
    → saturated (n * ways values (drop i members) + place values (drop i members) (drop i chosen)) ≡ t → n ≡ t
place_end values members chosen i n t past fits before =
    let last : saturated (n * ways values (drop i members) + place values (drop i members) (drop i chosen)) ≡ saturated (n * 1 + 0)
    = at_drop_all (λ ms. saturated (n * ways values ms + place values ms (drop i chosen))) members i past in
    let exact : saturated (n * 1 + 0) ≡ n = omega (arith, fits) in
    sym exact ∙ sym last ∙ before

-- the tuples with a negative value of a member before q: one member more, q itself, and no q
pub before_step : (plan : PlanView) (set members : List ℕ) (q i n own next t : ℕ) → i < length members → (get_or members i 0 == q) ≡ false
    → own ≡ saturated (negative_ways plan set (get_or members i 0)) → next ≡ saturated (n + own)
    → saturated (n + ways_before plan set q (drop i members)) ≡ t → saturated (next + ways_before plan set q (drop (i + 1) members)) ≡ t
before_step plan set members q i n own next t within test ways added before =
    let rest = ways_before plan set q (drop (i + 1) members) in
    let opened : saturated (n + ways_before plan set q (drop i members)) ≡ saturated (n + (negative_ways plan set (get_or members i 0) + rest))
    = at_drop_more (λ ms. saturated (n + ways_before plan set q ms)) members i 0 within
    ∙ ap (λ b. saturated (n + (if b then 0 else negative_ways plan set (get_or members i 0) + rest))) test in
    let sums : saturated (saturated (n + own) + rest) ≡ saturated (n + (negative_ways plan set (get_or members i 0) + rest)) =
    ap (λ k. saturated (saturated (n + k) + rest)) ways ∙ told_in n (negative_ways plan set (get_or members i 0)) rest in
    ap (λ k. saturated (k + rest)) added ∙ sums ∙ sym opened ∙ before
  where
    told_in : (n a b : ℕ) → saturated (saturated (n + saturated a) + b) ≡ saturated (n + (a + b))
    told_in n a b = omega arith

pub before_here : (plan : PlanView) (set members : List ℕ) (q i n t : ℕ) → i < length members → get_or members i 0 ≡ q → n ≤ 2 ^ 64 - 1
    → saturated (n + ways_before plan set q (drop i members)) ≡ t → n ≡ t
before_here plan set members q i n t within here fits before =
    let test : (get_or members i 0 == q) ≡ true = grind (arith, nat_tests) in
    let rest = ways_before plan set q (drop (i + 1) members) in
    let opened : saturated (n + ways_before plan set q (drop i members)) ≡ saturated (n + 0)
    = at_drop_more (λ ms. saturated (n + ways_before plan set q ms)) members i 0 within
    ∙ ap (λ b. saturated (n + (if b then 0 else negative_ways plan set (get_or members i 0) + rest))) test in
    let exact : saturated (n + 0) ≡ n = omega (arith, fits) in
    sym exact ∙ sym opened ∙ before

pub before_end : (plan : PlanView) (set members : List ℕ) (q i n t : ℕ) → length members ≤ i → n ≤ 2 ^ 64 - 1
    → saturated (n + ways_before plan set q (drop i members)) ≡ t → n ≡ t
before_end plan set members q i n t past fits before =
    let last : saturated (n + ways_before plan set q (drop i members)) ≡ saturated (n + 0) = at_drop_all (λ ms. saturated (n + ways_before plan set q ms)) members i past in
    let exact : saturated (n + 0) ≡ n = omega (arith, fits) in
    sym exact ∙ sym last ∙ before

-- members of a rising list exist
pub rises_within : (set : List ℕ) (p e : ℕ) → RisesFrom p e set → All (λ q. q < e) set
rises_within set p e rises = All-from_recursion (λ q. q < e) set (each set p e rises)
  where
    each : (set : List ℕ) (p e : ℕ) → RisesFrom p e set → AllByRecursion (λ q. q < e) set
    each [] p e rises = tt
    each (q ∷ set) p e rises = (rises.1, each set (q + 1) e rises.2)

-- one term more of a sum, and the end
pub sum_step : {X : Type 0} (f : X → ℕ) (xs : List X) (d : X) (i count term next whole : ℕ) → i < length xs → term ≡ saturated (f (get_or xs i d))
    → next ≡ saturated (count + term)
    → saturated (count + sum_by f (drop i xs)) ≡ whole → saturated (next + sum_by f (drop (i + 1) xs)) ≡ whole
sum_step f xs d i count term next whole within counted added so_far =
    let opened : sum_by f (drop i xs) ≡ f (get_or xs i d) + sum_by f (drop (i + 1) xs) =
    at_drop_more (sum_by f) xs i d within ∙ sum_by-cons f (get_or xs i d) (drop (i + 1) xs) in
    omega (arith, opened, counted, added, so_far)

pub sum_end : {X : Type 0} (f : X → ℕ) (xs : List X) (i count whole : ℕ) → length xs ≤ i → count ≤ 2 ^ 64 - 1 → saturated (count + sum_by f (drop i xs)) ≡ whole
    → count ≡ whole
sum_end f xs i count whole past fits so_far =
    let none : sum_by f (drop i xs) ≡ 0 = at_drop_all (sum_by f) xs i past in
    omega (arith, none, fits, so_far)

-- the members of a set of those that rise exist
pub exist_at : (e : ℕ) (sets : List (List ℕ)) (i : ℕ) → i < length sets → All (RisesFrom 0 e) sets → All (λ q. q < e) (get_or sets i [])
exist_at e sets i within all = rises_within (get_or sets i []) 0 e (All-get_or (RisesFrom 0 e) sets i [] within all)

-- a size within the limit of the sum is counted exactly
pub told_size : {X : Type 0} (f : X → ℕ) (xs : List X) (i : ℕ) (d : X) (n : ℕ) → i < length xs → sum_by f xs ≤ 2 ^ 26 → n ≡ saturated (f (get_or xs i d))
    → (n ≡ f (get_or xs i d)) × (n ≤ 2 ^ 26)
told_size f xs i d n within limit told_is =
    let own = get_or-le-sum_by f xs i d within in
    (omega (arith, own, limit, told_is), omega (arith, own, limit, told_is))
