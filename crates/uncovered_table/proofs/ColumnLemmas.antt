-- The last parameter of a set in column order is the lowest one.
use Rattle.std.proofs.Common.{inl, inr, ◌≡◌, ℕ, zero, suc, ◌<◌, ◌≤◌, Bool, true, false, ◌&&◌, ◌||◌, not, List, [], ◌∷◌, ◌++◌}
use Rattle.std.proofs.Common.{Option, Some, None, nat_lt, ◌∙◌, refl, sym, subst, ap, arith, append_assoc}
use Rattle.std.specs.Prelude.{◌==◌, nat_le, if◌then◌else◌}
use Rattle.std.specs.List.{filter, last_or, list_any}
use Rattle.std.proofs.lemmas.Bool.{false≢true, cases_Bool}
use Rattle.std.proofs.lemmas.Bool.Decides.{nat_tests}
use Rattle.std.proofs.lemmas.List.Elements.{filter-append}
use Rattle.std.proofs.Math.Bool.{or-true}
use Rattle.value_text.proofs.ListLemmas.{filter_swap}
use Rattle.definitions.specs.believed.Completion.{falling}
use Rattle.uncovered_table.specs.Lasts.{lowest, lower, with_last}

-- the first number below n after which none is as low, or else d
abbrev pub lowest_below : (ℕ → ℕ) → ℕ → Option ℕ → List ℕ → Option ℕ
lowest_below count n d [] = d
lowest_below count n d (p ∷ set) =
    if nat_lt (count p) n && not (list_any (λ q. nat_le (count q) (count p)) set) then Some p else lowest_below count n d set

abbrev any_below : (ℕ → ℕ) → ℕ → List ℕ → Bool
any_below count n set = list_any (λ q. nat_lt (count q) n) set

-- where one is as low as another that is below n, one is below n
low_below : (count : ℕ → ℕ) (k n : ℕ) (set : List ℕ) → nat_lt k n ≡ true → list_any (λ q. nat_le (count q) k) set ≡ true → any_below count n set ≡ true
low_below count k n [] less low = absurd (false≢true low)
low_below count k n (p ∷ set) less low =
    elim (cases_Bool (nat_le (count p) k)) [
      | inl test ↦ let here : nat_lt (count p) n ≡ true = grind (arith, nat_tests) in rw here refl
      | inr test ↦
          let rest = low_below count k n set less (subst (λ b. (b || list_any (λ q. nat_le (count q) k) set) ≡ true) test low) in
          subst (λ b. (nat_lt (count p) n || b) ≡ true) (sym rest) (or-true (nat_lt (count p) n))
    ]

above_low : (count : ℕ → ℕ) (k j : ℕ) (set : List ℕ) → k ≤ j → list_any (λ q. nat_le (count q) k) set ≡ true → list_any (λ q. nat_le (count q) j) set ≡ true
above_low count k j [] less low = low
above_low count k j (p ∷ set) less low =
    elim (cases_Bool (nat_le (count p) k)) [
      | inl test ↦ let here : nat_le (count p) j ≡ true = grind (arith, nat_tests) in rw here refl
      | inr test ↦
          let rest = above_low count k j set less (subst (λ b. (b || list_any (λ q. nat_le (count q) k) set) ≡ true) test low) in
          subst (λ b. (nat_le (count p) j || b) ≡ true) (sym rest) (or-true (nat_le (count p) j))
    ]

-- being as low as n is being below the next number
low_next : (count : ℕ → ℕ) (n : ℕ) (set : List ℕ) → list_any (λ q. nat_le (count q) n) set ≡ any_below count (suc n) set
low_next count n [] = refl
low_next count n (p ∷ set) =
    let same : nat_le (count p) n ≡ nat_lt (count p) (suc n) = grind (arith, nat_tests) in
    ap (λ b. b || list_any (λ q. nat_le (count q) n) set) same ∙ ap (λ b. nat_lt (count p) (suc n) || b) (low_next count n set)

-- where one is below n, nothing else is asked
one_below : (count : ℕ → ℕ) (n : ℕ) (d e : Option ℕ) (set : List ℕ) → any_below count n set ≡ true → lowest_below count n d set ≡ lowest_below count n e set
one_below count n d e [] one = absurd (false≢true one)
one_below count n d e (p ∷ set) one =
    elim (cases_Bool (nat_lt (count p) n)) [
      | inl less ↦
          elim (cases_Bool (list_any (λ q. nat_le (count q) (count p)) set)) [
            | inl low ↦ rw (less, low) (one_below count n d e set (low_below count (count p) n set less low))
            | inr low ↦ rw (less, low) refl
          ]
      | inr less ↦ rw less (one_below count n d e set (subst (λ a. (a || any_below count n set) ≡ true) less one))
    ]

-- where none is, the other one is the answer
none_below : (count : ℕ → ℕ) (n : ℕ) (d : Option ℕ) (set : List ℕ) → any_below count n set ≡ false → lowest_below count n d set ≡ d
none_below count n d [] none = refl
none_below count n d (p ∷ set) none =
    elim (cases_Bool (nat_lt (count p) n)) [
      | inl test ↦ absurd (false≢true (sym (subst (λ b. (b || any_below count n set) ≡ false) test none)))
      | inr test ↦ rw test (none_below count n d set (subst (λ b. (b || any_below count n set) ≡ false) test none))
    ]

none_below_zero : (count : ℕ → ℕ) (set : List ℕ) → any_below count 0 set ≡ false
none_below_zero count [] = refl
none_below_zero count (p ∷ set) =
    let test : nat_lt (count p) 0 ≡ false = grind (arith, nat_tests) in
    rw test (none_below_zero count set)

-- an item that passes stays, another one goes
pub filter_yes : {X : Type 0} (f : X → Bool) (x : X) (xs : List X) → f x ≡ true → filter f (x ∷ xs) ≡ x ∷ filter f xs
filter_yes f x xs passes = ap (λ b. if b then x ∷ filter f xs else filter f xs) passes

pub filter_no : {X : Type 0} (f : X → Bool) (x : X) (xs : List X) → f x ≡ false → filter f (x ∷ xs) ≡ filter f xs
filter_no f x xs fails = ap (λ b. if b then x ∷ filter f xs else filter f xs) fails

-- a number that is n itself, before others
low_here : (count : ℕ → ℕ) (n p : ℕ) (d : Option ℕ) (set : List ℕ) → count p ≡ n
    → (if not (list_any (λ q. nat_le (count q) (count p)) set) then Some p else lowest_below count (suc n) d set) ≡ lowest_below count (suc n) (Some p) set
low_here count n p d set equal =
    let same = ap (λ k. list_any (λ q. nat_le (count q) k) set) equal ∙ low_next count n set in
    elim (cases_Bool (any_below count (suc n) set)) [
      | inl any ↦ let test = same ∙ any in rw test (one_below count (suc n) d (Some p) set any)
      | inr any ↦ let test = same ∙ any in rw test (sym (none_below count (suc n) (Some p) set any))
    ]

not_both : (k n : ℕ) → nat_lt k n ≡ true → (k == n) ≡ true → ⊥
not_both k n less same = grind (arith, nat_tests)

-- one number more
next_below : (count : ℕ → ℕ) (n : ℕ) (d : Option ℕ) (set : List ℕ)
    → lowest_below count (suc n) d set ≡ lowest_below count n (last_or d (filter (λ p. count p == n) set)) set
next_below count n d [] = refl
next_below count n d (p ∷ set) =
    elim (cases_Bool (nat_lt (count p) n)) [
      | inl less ↦
          let next : nat_lt (count p) (suc n) ≡ true = grind (arith, nat_tests) in
          elim (cases_Bool (count p == n)) [
            | inl same ↦ absurd (not_both (count p) n less same)
            | inr other ↦
                let found = filter_no (λ q. count q == n) p set other in
                rw (next, less) (ap (λ o. if not (list_any (λ q. nat_le (count q) (count p)) set) then Some p else o)
                (next_below count n d set ∙ ap (λ ps. lowest_below count n (last_or d ps) set) (sym found)))
          ]
      | inr over ↦
          elim (cases_Bool (count p == n)) [
            | inl same ↦
                let next : nat_lt (count p) (suc n) ≡ true = grind (arith, nat_tests) in
                let equal : count p ≡ n = grind (arith, nat_tests) in
                let found = filter_yes (λ q. count q == n) p set same in
                rw (next, over) (low_here count n p d set equal ∙ next_below count n (Some p) set
                ∙ ap (λ ps. lowest_below count n (last_or d ps) set) (sym found))
            | inr other ↦
                let next : nat_lt (count p) (suc n) ≡ false = grind (arith, nat_tests) in
                let found = filter_no (λ q. count q == n) p set other in
                rw (next, over) (next_below count n d set ∙ ap (λ ps. lowest_below count n (last_or d ps) set) (sym found))
          ]
    ]

last_or-append : {X : Type 0} (d : Option X) (xs ys : List X) → last_or d (xs ++ ys) ≡ last_or (last_or d xs) ys
last_or-append d [] ys = refl
last_or-append d (x ∷ xs) ys = last_or-append (Some x) xs ys

-- the last of the numbers by falling count
last_falling : (count : ℕ → ℕ) (n : ℕ) (d : Option ℕ) (set : List ℕ)
    → last_or d (falling n count set ++ filter (λ p. count p == 0) set) ≡ lowest_below count (suc n) d set
last_falling count zero d set =
    let none = none_below count 0 (last_or d (filter (λ p. count p == 0) set)) set (none_below_zero count set) in
    sym (next_below count 0 d set ∙ none)
last_falling count (suc n) d set =
    let here = filter (λ p. count p == suc n) set in
    let later = falling n count set in
    ap (last_or d) (append_assoc here later (filter (λ p. count p == 0) set))
    ∙ last_or-append d here (later ++ filter (λ p. count p == 0) set)
    ∙ last_falling count n (last_or d here) set
    ∙ sym (next_below count (suc n) d set)

-- where all are below n
all_below : (count : ℕ → ℕ) (n : ℕ) (set : List ℕ) → ((p : ℕ) → count p < n) → lowest_below count n None set ≡ lowest count set
all_below count n [] below = refl
all_below count n (p ∷ set) below =
    let test : nat_lt (count p) n ≡ true = (let less = below p in grind (arith, nat_tests)) in
    rw test (by_test (list_any (λ q. nat_le (count q) (count p)) set) (all_below count n set below))
  where
    by_test : (b : Bool) {a z : Option ℕ} → a ≡ z → (if not b then Some p else a) ≡ (if b then z else Some p)
    by_test true same = same
    by_test false same = refl

filter-falling : (f : ℕ → Bool) (n : ℕ) (count : ℕ → ℕ) (xs : List ℕ) → filter f (falling n count xs) ≡ falling n count (filter f xs)
filter-falling f zero count xs = refl
filter-falling f (suc n) count xs =
    filter-append f (filter (λ p. count p == suc n) xs) (falling n count xs)
    ∙ ap (λ ys. ys ++ filter f (falling n count xs)) (filter_swap f (λ p. count p == suc n) xs)
    ∙ ap (λ ys. filter (λ p. count p == suc n) (filter f xs) ++ ys) (filter-falling f n count xs)

-- the last of the numbers of a list that pass a test, by falling count
pub last_passing : (f : ℕ → Bool) (n : ℕ) (count : ℕ → ℕ) (xs set : List ℕ) → ((p : ℕ) → count p ≤ n) → filter f xs ≡ set
    → last_or None (filter f (falling n count xs ++ filter (λ p. count p == 0) xs)) ≡ lowest count set
last_passing f n count xs set most same =
    ap (last_or None) (filter-append f (falling n count xs) (filter (λ p. count p == 0) xs)
    ∙ ap (λ ys. ys ++ filter f (filter (λ p. count p == 0) xs)) (filter-falling f n count xs)
    ∙ ap (λ ys. falling n count (filter f xs) ++ ys) (filter_swap f (λ p. count p == 0) xs))
    ∙ ap (λ ys. last_or None (falling n count ys ++ filter (λ p. count p == 0) ys)) same
    ∙ last_falling count n None set
    ∙ all_below count (suc n) set (λ p. let below = most p in omega (arith, below))

-- one number more
pub lowest_step : (count : ℕ → ℕ) (last : Option ℕ) (p : ℕ) (set : List ℕ)
    → lowest count (with_last last (p ∷ set)) ≡ lowest count (lower count last p ∷ set)
lowest_step count None p set = refl
lowest_step count (Some q) p set =
    elim (cases_Bool (nat_le (count p) (count q))) [
      | inl test ↦ rw test refl
      | inr high ↦
          elim (cases_Bool (list_any (λ r. nat_le (count r) (count q)) set)) [
            | inl low ↦
                let later : list_any (λ r. nat_le (count r) (count p)) set ≡ true = above_low count (count q) (count p) set (grind (arith, nat_tests)) low in
                rw (high, low) (rw later refl)
            | inr low ↦ rw (high, low) refl
          ]
    ]
