-- Sums over lists of lists, and how many members pass a test.
use Rattle.std.proofs.Common.{◌≡◌, ℕ, ◌+◌, ◌≤◌, Bool, true, false, cond, List, [], ◌∷◌, length, sum_by, inl, inr, ◌∙◌, sym, ap, subst, refl, arith, length-append}
use Rattle.std.specs.List.{filter, flat_map}
use Rattle.std.proofs.lemmas.Bool.{false≢true, false_from_ne_true, cases_Bool}
use Rattle.std.proofs.lemmas.List.Elements.{filter-append}
use Rattle.std.proofs.lemmas.List.Sums.{sum_by-cons}
use Rattle.definitions.proofs.Members.{Has}
use Rattle.definitions.proofs.Distinct.{NoRepeats}

-- how many pass
abbrev pub count : {X : Type 0} → (X → Bool) → List X → ℕ
count test xs = length (filter test xs)

abbrev pub counted : Bool → ℕ → ℕ
counted b n = cond b n 0

pub sum_less : {X : Type 0} (f g : X → ℕ) (xs : List X) → ((x : X) → Has xs x → f x ≤ g x) → sum_by f xs ≤ sum_by g xs
sum_less f g [] less = omega arith
sum_less f g (x ∷ xs) less =
    let here = less x (inl refl) in
    let later = sum_less f g xs (λ y has. less y (inr has)) in
    omega (arith, here, later, sum_by-cons f x xs, sum_by-cons g x xs)

pub sum_same : {X : Type 0} (f g : X → ℕ) (xs : List X) → ((x : X) → f x ≡ g x) → sum_by f xs ≡ sum_by g xs
sum_same f g [] same = refl
sum_same f g (x ∷ xs) same = omega (arith, same x, sum_same f g xs same, sum_by-cons f x xs, sum_by-cons g x xs)

pub sum_plus : {X : Type 0} (f g : X → ℕ) (xs : List X) → sum_by (λ x. f x + g x) xs ≡ sum_by f xs + sum_by g xs
sum_plus f g [] = refl
sum_plus f g (x ∷ xs) = omega (arith, sum_plus f g xs, sum_by-cons f x xs, sum_by-cons g x xs, sum_by-cons (λ x. f x + g x) x xs)

pub sum_none : {X : Type 0} (xs : List X) → sum_by (λ x. 0) xs ≡ 0
sum_none [] = refl
sum_none (x ∷ xs) = omega (arith, sum_none xs, sum_by-cons (λ x. 0) x xs)

pub sum_ones : {X : Type 0} (xs : List X) → sum_by (λ x. 1) xs ≡ length xs
sum_ones [] = refl
sum_ones (x ∷ xs) = omega (arith, sum_ones xs, sum_by-cons (λ x. 1) x xs)

-- rows and columns
pub sum_swap : {X Y : Type 0} (f : X → Y → ℕ) (xs : List X) (ys : List Y) → sum_by (λ x. sum_by (f x) ys) xs ≡ sum_by (λ y. sum_by (λ x. f x y) xs) ys
sum_swap f [] ys = sym (sum_none ys)
sum_swap f (x ∷ xs) ys =
    let rest = sum_swap f xs ys in
    let both = sum_plus (f x) (λ y. sum_by (λ x. f x y) xs) ys in
    let each = sum_same (λ y. sum_by (λ x. f x y) (x ∷ xs)) (λ y. f x y + sum_by (λ x. f x y) xs) ys (λ y. sum_by-cons (λ x. f x y) x xs) in
    omega (arith, rest, both, each, sum_by-cons (λ x. sum_by (f x) ys) x xs)

-- lists joined end to end
pub count_flat : {X Y : Type 0} (test : Y → Bool) (f : X → List Y) (xs : List X) → count test (flat_map f xs) ≡ sum_by (λ x. count test (f x)) xs
count_flat test f [] = refl
count_flat test f (x ∷ xs) =
    let parts = ap length (filter-append test (f x) (flat_map f xs)) in
    omega (arith, parts, length-append (filter test (f x)) (filter test (flat_map f xs)), count_flat test f xs, sum_by-cons (λ x. count test (f x)) x xs)

-- what a filter leaves
pub sum_filter : {X : Type 0} (test : X → Bool) (f : X → ℕ) (xs : List X) → sum_by f (filter test xs) ≡ sum_by (λ x. counted (test x) (f x)) xs
sum_filter test f [] = refl
sum_filter test f (x ∷ xs) =
    let later = sum_filter test f xs in
    let whole = sum_by-cons (λ x. counted (test x) (f x)) x xs in
    elim (cases_Bool (test x)) [
      | inl passes ↦
          let first : counted (test x) (f x) ≡ f x = ap (λ b. counted b (f x)) passes in
          let kept : sum_by f (filter test (x ∷ xs)) ≡ sum_by f (x ∷ filter test xs) = ap
          (λ b. sum_by f (cond b (x ∷ filter test xs) (filter test xs))) passes in
          omega (arith, later, whole, first, kept, sum_by-cons f x (filter test xs))
      | inr fails ↦
          let first : counted (test x) (f x) ≡ 0 = ap (λ b. counted b (f x)) fails in
          let kept : sum_by f (filter test (x ∷ xs)) ≡ sum_by f (filter test xs) = ap (λ b. sum_by f (cond b (x ∷ filter test xs) (filter test xs))) fails in
          omega (arith, later, whole, first, kept)
    ]

pub count_sum : {X : Type 0} (test : X → Bool) (xs : List X) → count test xs ≡ sum_by (λ x. counted (test x) 1) xs
count_sum test xs = sym (sum_ones (filter test xs)) ∙ sum_filter test (λ x. 1) xs

-- more pass a weaker test
pub count_less : {X : Type 0} (f g : X → Bool) (xs : List X) → ((x : X) → Has xs x → f x ≡ true → g x ≡ true) → count f xs ≤ count g xs
count_less f g xs weaker =
    let least = sum_less (λ x. counted (f x) 1) (λ x. counted (g x) 1) xs (λ x has. at (f x) (g x) (weaker x has)) in
    omega (arith, least, count_sum f xs, count_sum g xs)
  where
    at : (a b : Bool) → (a ≡ true → b ≡ true) → counted a 1 ≤ counted b 1
    at false b h = omega arith
    at true true h = omega arith
    at true false h = absurd (false≢true (h refl))

-- where none passes, and where one at most does
pub sum_failing : {X : Type 0} (test : X → Bool) (n : ℕ) (xs : List X) → ((x : X) → Has xs x → test x ≡ false) → sum_by (λ x. counted (test x) n) xs ≡ 0
sum_failing test n [] fails = refl
sum_failing test n (x ∷ xs) fails =
    let first : counted (test x) n ≡ 0 = ap (λ b. counted b n) (fails x (inl refl)) in
    omega (arith, first, sum_failing test n xs (λ y has. fails y (inr has)), sum_by-cons (λ x. counted (test x) n) x xs)

pub sum_once : {X : Type 0} (test : X → Bool) (n : ℕ) (xs : List X) → NoRepeats xs → ((x y : X) → test x ≡ true → test y ≡ true → x ≡ y)
    → sum_by (λ x. counted (test x) n) xs ≤ n
sum_once test n [] once one = omega arith
sum_once test n (x ∷ xs) once one =
    let whole = sum_by-cons (λ x. counted (test x) n) x xs in
    elim (cases_Bool (test x)) [
      | inl passes ↦
          let first : counted (test x) n ≡ n = ap (λ b. counted b n) passes in
          let later = sum_failing test n xs (λ y has. false_from_ne_true (test y) (λ also. once.0 (subst (Has xs) (one y x also passes) has))) in
          omega (arith, whole, first, later)
      | inr fails ↦
          let first : counted (test x) n ≡ 0 = ap (λ b. counted b n) fails in
          omega (arith, whole, first, sum_once test n xs once.1 one)
    ]
