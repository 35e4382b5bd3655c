-- A stable sort by falling weight gives the one list that is sorted so and keeps the order of ties.
use Rattle.std.proofs.Common.{◌≡◌, ℕ, suc, ◌<◌, ◌≤◌, Bool, true, false, not, ◌&&◌, cond, List, [], ◌∷◌, length, get_or, nat_eq, nat_le, filter, ◌∙◌, sym, ap, refl, arith, add-one}
use Rattle.std.specs.Ordering.{is_lt, nat_cmp}
use Rattle.std.specs.List.Sorted.{IsSortedBy, IsStableBy, ties}
use Rattle.std.proofs.lemmas.Bool.{false≢true, eqb-true, cond_both}
use Rattle.std.proofs.lemmas.Bool.Decides.{nat_tests}
use Rattle.std.proofs.lemmas.List.Elements.{filter_agree}
use Rattle.std.proofs.lemmas.Map.Keys.{ge_from_not_lt}
use Rattle.cov_model.specs.believed.Preference.{insert_by_weight, by_falling_weight}

abbrev tied : (ℕ → ℕ) → ℕ → ℕ → Bool
tied weight x y = nat_eq (weight x) (weight y)

itself : (weight : ℕ → ℕ) (x : ℕ) → tied weight x x ≡ true
itself weight x = grind (arith, nat_tests)

passed_by : (a b : Bool) (v w : ℕ) (inserted kept : List ℕ) → inserted ≡ cond a (v ∷ kept) kept → (a ≡ true → b ≡ false)
    → cond b (w ∷ inserted) inserted ≡ cond a (v ∷ cond b (w ∷ kept) kept) (cond b (w ∷ kept) kept)
passed_by true true v w inserted kept same apart = absurd (false≢true (sym (apart refl)))
passed_by true false v w inserted kept same apart = same
passed_by false true v w inserted kept same apart = ap (λ (l : List ℕ). w ∷ l) same
passed_by false false v w inserted kept same apart = same

apart_weights : (m n x : ℕ) → nat_le n m ≡ false → nat_eq x m ≡ true → nat_eq x n ≡ false
apart_weights m n x heavier same = grind (arith, nat_tests)

-- an insertion keeps the order of ties
filter-insert_by_weight : (weight : ℕ → ℕ) (x v : ℕ) (ys : List ℕ)
    → filter (tied weight x) (insert_by_weight weight v ys) ≡ filter (tied weight x) (v ∷ ys)
filter-insert_by_weight weight x v [] = refl
filter-insert_by_weight weight x v (w ∷ rest) =
    cond_both (nat_le (weight w) (weight v)) (v ∷ w ∷ rest) (w ∷ insert_by_weight weight v rest)
    (λ l. filter (tied weight x) l ≡ filter (tied weight x) (v ∷ w ∷ rest))
    (λ lighter. refl)
    (λ heavier.
    passed_by (tied weight x v) (tied weight x w) v w (filter (tied weight x) (insert_by_weight weight v rest)) (filter (tied weight x) rest)
    (filter-insert_by_weight weight x v rest) (apart_weights (weight v) (weight w) (weight x) heavier))

filter-by_falling_weight : (weight : ℕ → ℕ) (x : ℕ) (xs : List ℕ) → filter (tied weight x) (by_falling_weight weight xs) ≡ filter (tied weight x) xs
filter-by_falling_weight weight x [] = refl
filter-by_falling_weight weight x (v ∷ rest) =
    filter-insert_by_weight weight x v (by_falling_weight weight rest)
    ∙ ap (λ (l : List ℕ). cond (tied weight x v) (v ∷ l) l) (filter-by_falling_weight weight x rest)

-- no weight is above n
abbrev AreAtMost : (ℕ → ℕ) → ℕ → List ℕ → Type 0
AreAtMost weight n [] = Unit {0}
AreAtMost weight n (y ∷ ys) = (weight y ≤ n) × AreAtMost weight n ys

AreAtMost-more : (weight : ℕ → ℕ) (m n : ℕ) (ys : List ℕ) → m ≤ n → AreAtMost weight m ys → AreAtMost weight n ys
AreAtMost-more weight m n [] below h = tt
AreAtMost-more weight m n (y ∷ ys) below h = (omega (arith, h.0), AreAtMost-more weight m n ys below h.1)

AreAtMost-insert : (weight : ℕ → ℕ) (n v : ℕ) (ys : List ℕ) → weight v ≤ n → AreAtMost weight n ys → AreAtMost weight n (insert_by_weight weight v ys)
AreAtMost-insert weight n v [] here h = (here, tt)
AreAtMost-insert weight n v (w ∷ rest) here h =
    cond_both (nat_le (weight w) (weight v)) (v ∷ w ∷ rest) (w ∷ insert_by_weight weight v rest) (AreAtMost weight n)
    (λ lighter. (here, h)) (λ heavier. (h.0, AreAtMost-insert weight n v rest here h.1))

abbrev IsFalling : (ℕ → ℕ) → List ℕ → Type 0
IsFalling weight [] = Unit {0}
IsFalling weight (y ∷ ys) = AreAtMost weight (weight y) ys × IsFalling weight ys

IsFalling-insert : (weight : ℕ → ℕ) (v : ℕ) (ys : List ℕ) → IsFalling weight ys → IsFalling weight (insert_by_weight weight v ys)
IsFalling-insert weight v [] h = (tt, tt)
IsFalling-insert weight v (w ∷ rest) h =
    cond_both (nat_le (weight w) (weight v)) (v ∷ w ∷ rest) (w ∷ insert_by_weight weight v rest) (IsFalling weight)
    (λ lighter.
    let below : weight w ≤ weight v = grind (arith, nat_tests) in
    ((below, AreAtMost-more weight (weight w) (weight v) rest below h.0), h))
    (λ heavier.
    let above : weight v ≤ weight w = grind (arith, nat_tests) in
    (AreAtMost-insert weight (weight w) v rest above h.0, IsFalling-insert weight v rest h.1))

IsFalling-by_falling_weight : (weight : ℕ → ℕ) (xs : List ℕ) → IsFalling weight (by_falling_weight weight xs)
IsFalling-by_falling_weight weight [] = tt
IsFalling-by_falling_weight weight (v ∷ rest) = IsFalling-insert weight v (by_falling_weight weight rest) (IsFalling-by_falling_weight weight rest)

IsFalling-from_places : (weight : ℕ → ℕ) (ys : List ℕ) → ((k : ℕ) → suc k < length ys → weight (get_or ys (suc k) 0) ≤ weight (get_or ys k 0))
    → IsFalling weight ys
IsFalling-from_places weight [] steps = tt
IsFalling-from_places weight (y ∷ []) steps = (tt, tt)
IsFalling-from_places weight (y ∷ z ∷ rest) steps =
    let tail = IsFalling-from_places weight (z ∷ rest) (λ k within. steps (suc k) (omega arith)) in
    let step : weight z ≤ weight y = steps 0 (omega arith) in
    ((step, AreAtMost-more weight (weight z) (weight y) rest step tail.0), tail)

kept : (p : ℕ → Bool) (z : ℕ) (zs : List ℕ) → p z ≡ true → filter p (z ∷ zs) ≡ z ∷ filter p zs
kept p z zs h = ap (λ (b : Bool). cond b (z ∷ filter p zs) (filter p zs)) h

-- where something ties with x, x is no heavier than all
at_most_from_filter : (weight : ℕ → ℕ) (n x u : ℕ) (us ys : List ℕ) → AreAtMost weight n ys → filter (tied weight x) ys ≡ u ∷ us → weight x ≤ n
at_most_from_filter weight n x u us [] h found = cc
at_most_from_filter weight n x u us (y ∷ ys) h found =
    at_first (tied weight x y) (λ same. omega (arith, eqb-true (weight x) (weight y) same, h.0))
    (λ there. at_most_from_filter weight n x u us ys h.1 there) found
  where
    at_first : (b : Bool) → (b ≡ true → weight x ≤ n) → (filter (tied weight x) ys ≡ u ∷ us → weight x ≤ n)
        → cond b (y ∷ filter (tied weight x) ys) (filter (tied weight x) ys) ≡ u ∷ us → weight x ≤ n
    at_first true here later there = here refl
    at_first false here later there = later there

tails : (b c : Bool) (y z : ℕ) (ys zs : List ℕ) → b ≡ c → cond b (y ∷ ys) ys ≡ cond c (z ∷ zs) zs → ys ≡ zs
tails true true y z ys zs same h = cc
tails true false y z ys zs same h = absurd (false≢true (sym same))
tails false true y z ys zs same h = absurd (false≢true same)
tails false false y z ys zs same h = h

-- two falling lists with the same ties in the same order are one
one_falling : (weight : ℕ → ℕ) (ys zs : List ℕ) → IsFalling weight ys → IsFalling weight zs
    → ((x : ℕ) → filter (tied weight x) ys ≡ filter (tied weight x) zs) → ys ≡ zs
one_falling weight [] [] falling also same = refl
one_falling weight [] (z ∷ zs) falling also same = let h = same z ∙ kept (tied weight z) z zs (itself weight z) in cc
one_falling weight (y ∷ ys) [] falling also same = let h = sym (same y) ∙ kept (tied weight y) y ys (itself weight y) in cc
one_falling weight (y ∷ ys) (z ∷ zs) falling also same =
    let below : weight z ≤ weight y =
    at_most_from_filter weight (weight y) z z (filter (tied weight z) zs) (y ∷ ys) (omega arith, falling.0)
    (same z ∙ kept (tied weight z) z zs (itself weight z)) in
    let above : weight y ≤ weight z =
    at_most_from_filter weight (weight z) y y (filter (tied weight y) ys) (z ∷ zs) (omega arith, also.0)
    (sym (same y) ∙ kept (tied weight y) y ys (itself weight y)) in
    let equal : weight y ≡ weight z = omega arith in
    let firsts = sym (kept (tied weight y) y ys (itself weight y)) ∙ same y
    ∙ kept (tied weight y) z zs (sym (ap (λ (n : ℕ). nat_eq (weight y) n) equal) ∙ itself weight y) in
    let first : y ≡ z = cc in
    let rest = one_falling weight ys zs falling.1 also.1
    (λ x. tails (tied weight x y) (tied weight x z) y z (filter (tied weight x) ys) (filter (tied weight x) zs)
    (ap (λ (n : ℕ). nat_eq (weight x) n) equal) (same x)) in
    ap (λ (n : ℕ). n ∷ ys) first ∙ ap (λ (l : List ℕ). z ∷ l) rest

abbrev is_heavier : (ℕ → ℕ) → ℕ → ℕ → Bool
is_heavier weight x y = is_lt (nat_cmp (weight y) (weight x))

ties_by_number : (m n : ℕ) → (not (is_lt (nat_cmp n m)) && not (is_lt (nat_cmp m n))) ≡ nat_eq m n
ties_by_number m n = grind (arith, nat_tests)

-- what std's stable sort gives
pub by_falling_weight-sort : (weight : ℕ → ℕ) (xs ys : List ℕ) → IsSortedBy (is_heavier weight) ys → IsStableBy (is_heavier weight) xs ys
    → ys ≡ by_falling_weight weight xs
by_falling_weight-sort weight xs ys sorted stable =
    one_falling weight ys (by_falling_weight weight xs)
    (IsFalling-from_places weight ys (λ k within.
    ge_from_not_lt (weight (get_or ys k 0)) (weight (get_or ys (suc k) 0))
    (ap (λ (j : ℕ). is_lt (nat_cmp (weight (get_or ys k 0)) (weight (get_or ys j 0)))) (sym (add-one k)) ∙ sorted k 0 (omega arith) (omega arith))))
    (IsFalling-by_falling_weight weight xs)
    (λ x.
    let agree = λ (y : ℕ). ties_by_number (weight x) (weight y) in
    sym (filter_agree (ties (is_heavier weight) x) (tied weight x) agree ys) ∙ stable x
    ∙ filter_agree (ties (is_heavier weight) x) (tied weight x) agree xs ∙ sym (filter-by_falling_weight weight x xs))
