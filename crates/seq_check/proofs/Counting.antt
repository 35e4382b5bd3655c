-- How many of the numbers below one pass a test.
use Rattle.std.proofs.Common.{◌≡◌, ℕ, zero, suc, ◌+◌, ◌<◌, ◌≤◌, Bool, true, false, ◌&&◌, not, cond, [], ◌∷◌, ◌++◌}
use Rattle.std.proofs.Common.{count_by, eqb, inl, inr, ◌⊎◌, refl, sym, ap, ◌∙◌, arith, zero-add, add-one}
use Rattle.std.specs.List.{range_with_len}
use Rattle.std.proofs.Math.Bool.{and-false, and-true}
use Rattle.std.proofs.lemmas.Bool.{false≢true, cases_Bool, cases_eq, eq-eqb, false_from_ne_true, ne_eqb}
use Rattle.std.proofs.lemmas.List.FromFn.{length-range_with_len}
use Rattle.std.proofs.lemmas.List.Sums.{count_by-le-length, sum_by-append}
use Rattle.value_text.proofs.ListLemmas.{range_with_len_more}

abbrev pub among : (ℕ → Bool) → ℕ → ℕ
among p n = count_by p (range_with_len 0 n)

abbrev pub one_if : Bool → ℕ
one_if passes = cond passes 1 0

-- one number more
pub among-suc : (p : ℕ → Bool) (n : ℕ) → among p (suc n) ≡ among p n + one_if (p n)
among-suc p n =
    ap (among p) (sym (add-one n)) ∙ ap (count_by p) (range_with_len_more 0 n ∙ ap (λ k. range_with_len 0 n ++ k ∷ []) (zero-add n))
    ∙ sum_by-append (λ x. one_if (p x)) (range_with_len 0 n) (n ∷ []) ∙ ap (λ k. among p n + k) (zero-add (one_if (p n)))

pub among-le : (p : ℕ → Bool) (n : ℕ) → among p n ≤ n
among-le p n = omega (arith, count_by-le-length p (range_with_len 0 n), length-range_with_len 0 n)

-- all of them pass
pub among-all : (n : ℕ) → among (λ x. true) n ≡ n
among-all zero = refl
among-all (suc n) = let rest = among-all n in omega (arith, among-suc (λ x. true) n)

-- none of them
pub among-none : (n : ℕ) → among (λ x. false) n ≡ 0
among-none zero = refl
among-none (suc n) = let rest = among-none n in omega (arith, among-suc (λ x. false) n)

step_le : (a b : Bool) → (a ≡ true → b ≡ true) → one_if a ≤ one_if b
step_le true b follows = rw (follows refl) (omega arith)
step_le false true follows = omega arith
step_le false false follows = omega arith

module _ (p q : ℕ → Bool) where
  pub among-same : (n : ℕ) → ((x : ℕ) → x < n → p x ≡ q x) → among p n ≡ among q n
  among-same zero same = refl
  among-same (suc n) same =
      among-suc p n ∙ ap (λ k. k + one_if (p n)) (among-same n (λ x low. same x (omega arith)))
      ∙ ap (λ b. among q n + one_if b) (same n (omega arith)) ∙ sym (among-suc q n)

  pub among-less : (n : ℕ) → ((x : ℕ) → x < n → p x ≡ true → q x ≡ true) → among p n ≤ among q n
  among-less zero follows = omega arith
  among-less (suc n) follows =
      let rest = among-less n (λ x low. follows x (omega arith)) in
      let here = step_le (p n) (q n) (follows n (omega arith)) in
      omega (arith, among-suc p n, among-suc q n, rest, here)

  -- one passes the second test alone
  pub among-fewer : (n a : ℕ) → a < n → p a ≡ false → q a ≡ true → ((x : ℕ) → x < n → p x ≡ true → q x ≡ true) → among p n < among q n
  among-fewer zero a low fails passes follows = absurd (omega arith)
  among-fewer (suc n) a low fails passes follows = elim (cases_eq a n) [
    | inl same ↦
        let rest = among-less n (λ x less. follows x (omega arith)) in
        let first : one_if (p n) ≡ 0 = ap one_if (ap p (sym same) ∙ fails) in
        let second : one_if (q n) ≡ 1 = ap one_if (ap q (sym same) ∙ passes) in
        omega (arith, among-suc p n, among-suc q n, rest, first, second)
    | inr apart ↦
        let rest = among-fewer n a (omega (arith, apart)) fails passes (λ x less. follows x (omega arith)) in
        let here = step_le (p n) (q n) (follows n (omega arith)) in
        omega (arith, among-suc p n, among-suc q n, rest, here)
  ]

-- without one that passes
pub among-without : (q : ℕ → Bool) (n x : ℕ) → x < n → q x ≡ true → among (λ y. q y && not (eqb x y)) n + 1 ≡ among q n
among-without q zero x low passes = absurd (omega arith)
among-without q (suc n) x low passes = elim (cases_eq x n) [
  | inl same ↦
      let rest = among-same (λ y. q y && not (eqb x y)) q n (λ y less. ap (λ b. q y && not b) (ne_eqb x y (λ e. omega arith)) ∙ and-true (q y)) in
      let here : one_if (q n && not (eqb x n)) ≡ 0 = ap (λ b. one_if (q n && not b)) (eq-eqb x n same) ∙ ap one_if (and-false (q n)) in
      let one : one_if (q n) ≡ 1 = ap one_if (ap q (sym same) ∙ passes) in
      omega (arith, among-suc (λ y. q y && not (eqb x y)) n, among-suc q n, rest, here, one)
  | inr apart ↦
      let rest = among-without q n x (omega (arith, apart)) passes in
      let here : one_if (q n && not (eqb x n)) ≡ one_if (q n) = ap (λ b. one_if (q n && not b)) (ne_eqb x n apart) ∙ ap one_if (and-true (q n)) in
      omega (arith, among-suc (λ y. q y && not (eqb x y)) n, among-suc q n, rest, here)
]

-- some number passes, or none
pub some_among : (p : ℕ → Bool) (n : ℕ) → 0 < among p n → (x : ℕ) × (x < n) × (p x ≡ true)
some_among p zero some = absurd (omega arith)
some_among p (suc n) some = elim (cases_Bool (p n)) [
  | inl passes ↦ (n, omega arith, passes)
  | inr fails ↦
      let here : one_if (p n) ≡ 0 = ap one_if fails in
      let found = some_among p n (omega (arith, among-suc p n, here)) in
      (found.0, omega (arith, found.1), found.2)
]

pub passes_among : (p : ℕ → Bool) (n x : ℕ) → x < n → p x ≡ true → 0 < among p n
passes_among p n x low passes =
    let fewer = among-fewer (λ y. false) p n x low refl passes (λ y less fails. absurd (false≢true fails)) in
    omega arith

pub none_among : (p : ℕ → Bool) (n x : ℕ) → among p n ≡ 0 → x < n → p x ≡ false
none_among p n x none low = false_from_ne_true (p x) (λ passes. let some = passes_among p n x low passes in absurd (omega arith))

-- the least number that passes
abbrev pub IsLeast : (ℕ → Bool) → ℕ → Type 0
IsLeast p m = (p m ≡ true) × ((j : ℕ) → j < m → p j ≡ false)

least_below : (p : ℕ → Bool) (k : ℕ) → ((j : ℕ) → j < k → p j ≡ false) ⊎ ((m : ℕ) × IsLeast p m)
least_below p zero = inl (λ j low. absurd (omega arith))
least_below p (suc k) = elim (least_below p k) [
  | inl none ↦ elim (cases_Bool (p k)) [
    | inl passes ↦ inr (k, (passes, none))
    | inr fails ↦ inl (λ j low. elim (cases_eq j k) [
      | inl same ↦ ap p same ∙ fails
      | inr apart ↦ none j (omega (arith, apart))
    ])
  ]
  | inr found ↦ inr found
]

pub least : (p : ℕ → Bool) (k : ℕ) → p k ≡ true → (m : ℕ) × IsLeast p m
least p k passes = elim (least_below p (suc k)) [
  | inl none ↦ absurd (false≢true (sym (none k (omega arith)) ∙ passes))
  | inr found ↦ found
]
