-- Counts of sequences by their events but the last.
use Rattle.std.proofs.Common.{◌≡◌, ℕ, zero, suc, ◌+◌, ◌-◌, ◌<◌, ◌⊎◌, inl, inr, Bool, cond, not, List, []}
use Rattle.std.proofs.Common.{◌∷◌, ◌++◌, length, map, count_by, All, refl, sym, ap, ◌∙◌, arith, zero-add}
use Rattle.seq_check.specs.EventSets.{OpenView, Tells, is_open}
use Rattle.seq_check.specs.believed.Orders.{is_had}
use Rattle.std.proofs.lemmas.List.Elements.{All-nil, All-cons, All-append, All-map, All-head, All-tail, All-weaker}
use Rattle.std.proofs.lemmas.List.Sums.{sum_by-append, sum_by-cons}
use Rattle.seq_cover.specs.Building.{open_gain}
use Rattle.seq_cover.specs.believed.OrderGrowth.{choose, gain}
use Rattle.value_text.proofs.ListLemmas.{count_map}

pub count_append : {X : Type 0} (p : X → Bool) (xs ys : List X) → count_by p (xs ++ ys) ≡ count_by p xs + count_by p ys
count_append p xs ys = sum_by-append (λ x. cond (p x) 1 0) xs ys

pub count_same : {X : Type 0} (p q : X → Bool) (xs : List X) → All (λ x. p x ≡ q x) xs → count_by p xs ≡ count_by q xs
count_same p q [] same = refl
count_same p q (x ∷ xs) same =
    sum_by-cons (λ y. cond (p y) 1 0) x xs
    ∙ ap (λ b. cond b 1 0 + count_by p xs) (All-head (λ y. p y ≡ q y) x xs same)
    ∙ ap (λ n. cond (q x) 1 0 + n) (count_same p q xs (All-tail (λ y. p y ≡ q y) x xs same))
    ∙ sym (sum_by-cons (λ y. cond (q y) 1 0) x xs)

-- the ways to take some of the events, and one more event
pub count_choose : (k : ℕ) (p : List ℕ → Bool) (xs : List ℕ) (y : ℕ)
    → count_by p (choose (suc k) (xs ++ y ∷ [])) ≡ count_by p (choose (suc k) xs) + count_by (λ f. p (f ++ y ∷ [])) (choose k xs)
count_choose zero p [] y = omega (arith, count_one)
  where
    count_one : count_by p ((y ∷ []) ∷ []) ≡ count_by (λ f. p (f ++ y ∷ [])) ([] ∷ [])
    count_one = refl
count_choose (suc k) p [] y = refl
count_choose zero p (x ∷ xs) y =
    let rest = count_choose zero p xs y in
    let left = count_append p ((x ∷ []) ∷ []) (choose 1 (xs ++ y ∷ [])) in
    let right = count_append p ((x ∷ []) ∷ []) (choose 1 xs) in
    omega (arith, rest, left, right)
count_choose (suc k) p (x ∷ xs) y =
    let rest = count_choose (suc k) p xs y in
    let inner = count_choose k (λ f. p (x ∷ f)) xs y in
    let left = count_append p (map (λ f. x ∷ f) (choose (suc k) (xs ++ y ∷ []))) (choose (suc (suc k)) (xs ++ y ∷ [])) in
    let left_map = count_map p (λ f. x ∷ f) (choose (suc k) (xs ++ y ∷ [])) in
    let right = count_append p (map (λ f. x ∷ f) (choose (suc k) xs)) (choose (suc (suc k)) xs) in
    let right_map = count_map p (λ f. x ∷ f) (choose (suc k) xs) in
    let last = count_append (λ f. p (f ++ y ∷ [])) (map (λ f. x ∷ f) (choose k xs)) (choose (suc k) xs) in
    let last_map = count_map (λ f. p (f ++ y ∷ [])) (λ f. x ∷ f) (choose k xs) in
    omega (arith, rest, inner, left, left_map, right, right_map, last, last_map)

-- one event each
pub choose_one : (xs : List ℕ) → choose 1 xs ≡ map (λ x. x ∷ []) xs
choose_one [] = refl
choose_one (x ∷ xs) = ap (λ l. (x ∷ []) ∷ l) (choose_one xs)

pub count_singly : (p : List ℕ → Bool) (xs : List ℕ) → count_by p (choose 1 xs) ≡ count_by (λ x. p (x ∷ [])) xs
count_singly p xs = ap (count_by p) (choose_one xs) ∙ count_map p (λ x. x ∷ []) xs

-- what is taken
pub chosen_are : (k n : ℕ) (xs : List ℕ) → All (λ x. x < n) xs → All (λ f. (length f ≡ k) × All (λ x. x < n) f) (choose k xs)
chosen_are zero n xs exist = All-cons (λ f. (length f ≡ 0) × All (λ x. x < n) f) [] [] (refl, All-nil (λ x. x < n)) (All-nil (λ f. (length f ≡ 0) × All (λ x. x < n) f))
chosen_are (suc k) n [] exist = All-nil (λ f. (length f ≡ suc k) × All (λ x. x < n) f)
chosen_are (suc k) n (x ∷ xs) exist =
    let P : List ℕ → Type 0 = λ f. (length f ≡ suc k) × All (λ y. y < n) f in
    let here = All-head (λ y. y < n) x xs exist in
    let rest = All-tail (λ y. y < n) x xs exist in
    All-append P (map (λ f. x ∷ f) (choose k xs)) (choose (suc k) xs)
    (All-map P (λ f. x ∷ f) (choose k xs)
    (All-weaker (λ f. (length f ≡ k) × All (λ y. y < n) f) (λ f. P (x ∷ f)) (λ f is. (ap suc is.0, All-cons (λ y. y < n) x f here is.1)) (choose k xs) (chosen_are k n xs rest)))
    (chosen_are (suc k) n xs rest)

module _ (o : OpenView) (n : ℕ) (rows : List (List ℕ)) (row : List ℕ) (event : ℕ) (tells : Tells o n (λ s. not (is_had rows s))) (exist : All (λ x. x < n) row) (below : event < n) where
  gain_is : (k : ℕ) → k + 1 ≡ o.len → count_by (λ front. is_open o front event) (choose k row) ≡ count_by (λ front. not (is_had rows (front ++ event ∷ []))) (choose k row)
  gain_is k long = count_same (λ front. is_open o front event) (λ front. not (is_had rows (front ++ event ∷ []))) (choose k row)
      (All-weaker (λ f. (length f ≡ k) × All (λ x. x < n) f) (λ f. is_open o f event ≡ not (is_had rows (f ++ event ∷ [])))
      (λ f is. tells f event (record { long = ap (λ m. m + 1) is.0 ∙ long; exist = is.1 }) below) (choose k row) (chosen_are k n row exist))

  pub open_gain_is : (len : ℕ) → o.len ≡ len → (len ≡ 2) ⊎ (len ≡ 3) → open_gain o row event ≡ gain len rows row event
  open_gain_is len same of =
      let one_less : o.len - 1 + 1 ≡ o.len = elim of [ inl two ↦ omega (arith, two) | inr three ↦ omega (arith, three) ] in
      gain_is (o.len - 1) one_less ∙ ap (λ k. gain k rows row event) same

-- one event more in a row
module _ (o : OpenView) (row : List ℕ) (event last : ℕ) where
  gain_more : (k : ℕ) → o.len - 1 ≡ suc k → open_gain o (row ++ event ∷ []) last ≡ open_gain o row last + count_by (λ front. is_open o (front ++ event ∷ []) last) (choose k row)
  gain_more k long =
      let test : List ℕ → Bool = λ front. is_open o front last in
      ap (λ n. count_by test (choose n (row ++ event ∷ []))) long ∙ count_choose k test row event
      ∙ ap (λ n. count_by test (choose n row) + count_by (λ front. test (front ++ event ∷ [])) (choose k row)) (sym long)

  pub raise_two : o.len ≡ 2 → open_gain o row last + cond (is_open o (event ∷ []) last) 1 0 ≡ open_gain o (row ++ event ∷ []) last
  raise_two two =
      let long : o.len - 1 ≡ 1 = omega (arith, two) in
      sym (gain_more 0 long ∙ ap (λ n. open_gain o row last + n) (zero-add (cond (is_open o (event ∷ []) last) 1 0)))

  pub raise_three : o.len ≡ 3 → open_gain o row last + count_by (λ first. is_open o (first ∷ event ∷ []) last) row ≡ open_gain o (row ++ event ∷ []) last
  raise_three three =
      let long : o.len - 1 ≡ 2 = omega (arith, three) in
      sym (gain_more 1 long ∙ ap (λ n. open_gain o row last + n) (count_singly (λ front. is_open o (front ++ event ∷ []) last) row))
