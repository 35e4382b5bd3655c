-- A stable sort by falling number gives the column order.
use Rattle.std.proofs.Common.{◌≡◌, ◌⊎◌, ℕ, zero, suc, ◌<◌, ◌≤◌, Bool, true, false, cond, List, [], ◌∷◌, ◌++◌, map, length, get_or}
use Rattle.std.proofs.Common.{filter, nat_eq, nat_le, All, ◌∙◌, sym, ap, subst, refl, arith, inl, inr, append_assoc}
use Rattle.std.specs.Prelude.{slice_index, sum_by}
use Rattle.std.specs.List.{range_with_len}
use Rattle.std.proofs.lemmas.Bool.{cases_lt}
use Rattle.std.proofs.lemmas.Bool.Decides.{nat_tests}
use Rattle.std.proofs.lemmas.List.Elements.{All-nil, All-cons, All-append, All-head, All-tail, All-weaker}
use Rattle.std.proofs.lemmas.List.{get_or_past}
use Rattle.std.proofs.lemmas.List.FromFn.{get_or-map-range_with_len, length-map-range_with_len}
use Rattle.cov_model.proofs.CellLemmas.{length-slice_values}
use Rattle.value_text.proofs.ListLemmas.{filter_same}
use Rattle.cov_model.specs.declared.slice.Slice.{Slice}
use Rattle.cov_model.specs.believed.Preference.{insert_by_weight, by_falling_weight}
use Rattle.cov_model.specs.believed.Slices.{slice_values}
use Rattle.cov_model.specs.believed.Sound.{ModelView}
use Rattle.cov_model.specs.believed.Valid.{param_numbers}
use Rattle.definitions.specs.believed.Completion.{column_order, count_in, falling}
use Rattle.definitions.specs.SliceRows.{IsSliceOf}
use Rattle.tuple_index.specs.Places.{values_in}
use Rattle.tuple_index.specs.Plan.{plan_of}
use Rattle.uncovered_table.proofs.LastLemmas.{count_within}
use Rattle.uncovered_table.proofs.SliceLemmas.{slice_values_at}
use Rattle.ipog_grow.proofs.Falling.{falling-same}

-- the items by falling number, those without a number last
abbrev pub ranked : ℕ → (ℕ → ℕ) → List ℕ → List ℕ
ranked n f xs = falling n f xs ++ filter (λ x. nat_eq (f x) 0) xs

level : (k : ℕ) (f : ℕ → ℕ) (xs : List ℕ) → All (λ x. f x ≡ k) (filter (λ x. nat_eq (f x) k) xs)
level k f [] = All-nil (λ x. f x ≡ k)
level k f (x ∷ xs) = at (nat_eq (f x) k) refl (level k f xs)
  where
    at : (b : Bool) → nat_eq (f x) k ≡ b → All (λ y. f y ≡ k) (filter (λ y. nat_eq (f y) k) xs)
        → All (λ y. f y ≡ k) (cond b (x ∷ filter (λ y. nat_eq (f y) k) xs) (filter (λ y. nat_eq (f y) k) xs))
    at true is later = let same : f x ≡ k = grind (arith, nat_tests) in All-cons (λ y. f y ≡ k) x _ same later
    at false is later = later

-- by levels
ranked_suc : (n : ℕ) (f : ℕ → ℕ) (xs : List ℕ) → ranked (suc n) f xs ≡ filter (λ x. nat_eq (f x) (suc n)) xs ++ ranked n f xs
ranked_suc n f xs = append_assoc (filter (λ x. nat_eq (f x) (suc n)) xs) (falling n f xs) (filter (λ x. nat_eq (f x) 0) xs)

ranked_most : (n : ℕ) (f : ℕ → ℕ) (xs : List ℕ) → All (λ x. f x ≤ n) (ranked n f xs)
ranked_most zero f xs = All-weaker (λ x. f x ≡ 0) (λ x. f x ≤ 0) (λ x e. omega (arith, e)) _ (level 0 f xs)
ranked_most (suc n) f xs =
    subst (All (λ x. f x ≤ suc n)) (sym (ranked_suc n f xs))
    (All-append (λ x. f x ≤ suc n) (filter (λ x. nat_eq (f x) (suc n)) xs) (ranked n f xs)
    (All-weaker (λ x. f x ≡ suc n) (λ x. f x ≤ suc n) (λ x e. omega (arith, e)) _ (level (suc n) f xs))
    (All-weaker (λ x. f x ≤ n) (λ x. f x ≤ suc n) (λ x e. omega (arith, e)) _ (ranked_most n f xs)))

-- an item goes before those of no greater number
insert_front : (f : ℕ → ℕ) (v : ℕ) (xs : List ℕ) → All (λ x. f x ≤ f v) xs → insert_by_weight f v xs ≡ v ∷ xs
insert_front f v [] all = refl
insert_front f v (x ∷ xs) all =
    let most : f x ≤ f v = All-head (λ y. f y ≤ f v) x xs all in
    let test : nat_le (f x) (f v) ≡ true = grind (arith, nat_tests) in
    ap (λ (b : Bool). cond b (v ∷ x ∷ xs) (x ∷ insert_by_weight f v xs)) test

-- and behind those of a greater one
insert_past : (f : ℕ → ℕ) (v : ℕ) (xs ys : List ℕ) → All (λ x. f v < f x) xs → insert_by_weight f v (xs ++ ys) ≡ xs ++ insert_by_weight f v ys
insert_past f v [] ys all = refl
insert_past f v (x ∷ xs) ys all =
    let more : f v < f x = All-head (λ y. f v < f y) x xs all in
    let test : nat_le (f x) (f v) ≡ false = grind (arith, nat_tests) in
    ap (λ (b : Bool). cond b (v ∷ x ∷ (xs ++ ys)) (x ∷ insert_by_weight f v (xs ++ ys))) test
    ∙ ap (λ (rest : List ℕ). x ∷ rest) (insert_past f v xs ys (All-tail (λ y. f v < f y) x xs all))

-- an item above all that are looked for
falling_above : (n : ℕ) (f : ℕ → ℕ) (v : ℕ) (xs : List ℕ) → n < f v → ranked n f (v ∷ xs) ≡ ranked n f xs
falling_above zero f v xs above =
    let test : nat_eq (f v) 0 ≡ false = grind (arith, nat_tests) in
    ap (λ (b : Bool). cond b (v ∷ filter (λ x. nat_eq (f x) 0) xs) (filter (λ x. nat_eq (f x) 0) xs)) test
falling_above (suc n) f v xs above =
    let test : nat_eq (f v) (suc n) ≡ false = grind (arith, nat_tests) in
    ranked_suc n f (v ∷ xs)
    ∙ ap (λ (b : Bool). cond b (v ∷ filter (λ x. nat_eq (f x) (suc n)) xs) (filter (λ x. nat_eq (f x) (suc n)) xs) ++ ranked n f (v ∷ xs)) test
    ∙ ap (λ (rest : List ℕ). filter (λ x. nat_eq (f x) (suc n)) xs ++ rest) (falling_above n f v xs (omega arith))
    ∙ sym (ranked_suc n f xs)

insert_ranked : (n : ℕ) (f : ℕ → ℕ) (v : ℕ) (xs : List ℕ) → f v ≤ n → insert_by_weight f v (ranked n f xs) ≡ ranked n f (v ∷ xs)
insert_ranked zero f v xs most =
    let same : f v ≡ 0 = omega arith in
    let test : nat_eq (f v) 0 ≡ true = grind (arith, nat_tests) in
    insert_front f v (ranked zero f xs) (All-weaker (λ x. f x ≤ 0) (λ x. f x ≤ f v) (λ x e. omega (arith, e)) (ranked zero f xs) (ranked_most zero f xs))
    ∙ sym (ap (λ (b : Bool). cond b (v ∷ filter (λ x. nat_eq (f x) 0) xs) (filter (λ x. nat_eq (f x) 0) xs)) test)
insert_ranked (suc n) f v xs most = by_case (cases_lt n (f v)) (λ low. insert_ranked n f v xs low)
  where
    by_case : (n < f v) ⊎ (f v ≤ n) → (f v ≤ n → insert_by_weight f v (ranked n f xs) ≡ ranked n f (v ∷ xs)) → insert_by_weight f v (ranked (suc n) f xs)
        ≡ ranked (suc n) f (v ∷ xs)
    by_case (inl top) later =
        let test : nat_eq (f v) (suc n) ≡ true = grind (arith, nat_tests) in
        insert_front f v (ranked (suc n) f xs) (All-weaker (λ x. f x ≤ suc n) (λ x. f x ≤ f v) (λ x e. omega (arith, e, top)) (ranked (suc n) f xs)
        (ranked_most (suc n) f xs))
        ∙ ap (λ (rest : List ℕ). v ∷ rest) (ranked_suc n f xs)
        ∙ ap (λ (rest : List ℕ). v ∷ (filter (λ x. nat_eq (f x) (suc n)) xs ++ rest)) (sym (falling_above n f v xs top))
        ∙ sym (ap (λ (b : Bool). cond b (v ∷ filter (λ x. nat_eq (f x) (suc n)) xs) (filter (λ x. nat_eq (f x) (suc n)) xs) ++ ranked n f (v ∷ xs)) test)
        ∙ sym (ranked_suc n f (v ∷ xs))
    by_case (inr low) later =
        let test : nat_eq (f v) (suc n) ≡ false = grind (arith, nat_tests) in
        ap (insert_by_weight f v) (ranked_suc n f xs)
        ∙ insert_past f v (filter (λ x. nat_eq (f x) (suc n)) xs) (ranked n f xs)
        (All-weaker (λ x. f x ≡ suc n) (λ x. f v < f x) (λ x e. omega (arith, e, low)) _ (level (suc n) f xs))
        ∙ ap (λ (rest : List ℕ). filter (λ x. nat_eq (f x) (suc n)) xs ++ rest) (later low)
        ∙ sym (ap (λ (b : Bool). cond b (v ∷ filter (λ x. nat_eq (f x) (suc n)) xs) (filter (λ x. nat_eq (f x) (suc n)) xs) ++ ranked n f (v ∷ xs)) test)
        ∙ sym (ranked_suc n f (v ∷ xs))

ranked_nil : (n : ℕ) (f : ℕ → ℕ) → [] ≡ ranked n f []
ranked_nil zero f = refl
ranked_nil (suc n) f = ranked_nil n f

-- numbers up to n
pub by_falling_weight-ranked : (n : ℕ) (f : ℕ → ℕ) (xs : List ℕ) → ((x : ℕ) → f x ≤ n) → by_falling_weight f xs ≡ ranked n f xs
by_falling_weight-ranked n f [] most = ranked_nil n f
by_falling_weight-ranked n f (x ∷ xs) most = ap (insert_by_weight f x) (by_falling_weight-ranked n f xs most) ∙ insert_ranked n f x xs (most x)

-- the counts are those of the column order
counted : (m : ModelView) (slice : Slice) (counts : List ℕ) → IsSliceOf m slice → counts ≡ map (λ p. length (values_in (plan_of m) slice p))
    (range_with_len 0 (length m.params))
    → (p : ℕ) → slice_index counts p ≡ count_in m slice p
counted m slice counts is given p =
    ap (λ list. get_or list p 0) given ∙ by_case (cases_lt p (length m.params))
  where
    numbers : ℕ → ℕ
    numbers q = length (values_in (plan_of m) slice q)

    by_case : (p < length m.params) ⊎ (length m.params ≤ p) → get_or (map numbers (range_with_len 0 (length m.params))) p 0 ≡ count_in m slice p
    by_case (inl within) = get_or-map-range_with_len numbers 0 (length m.params) p p 0 within (omega arith) ∙ ap length (sym (slice_values_at m slice p is))
    by_case (inr past) =
        let long = length-map-range_with_len numbers 0 (length m.params) in
        get_or_past (map numbers (range_with_len 0 (length m.params))) p 0 (omega (arith, past, long))
        ∙ ap length (sym (get_or_past (slice_values m slice) p [] (omega (arith, past, length-slice_values m slice))))

-- so sorting by these numbers gives the column order
pub ordered : (m : ModelView) (slice : Slice) (counts order : List ℕ) → IsSliceOf m slice → counts ≡ map (λ p. length (values_in (plan_of m) slice p))
    (range_with_len 0 (length m.params))
    → order ≡ by_falling_weight (λ p. slice_index counts p) (param_numbers m) → order ≡ column_order m slice
ordered m slice counts order is given sorted =
    let n = sum_by length (slice_values m slice) in
    let numbers : ℕ → ℕ = λ p. slice_index counts p in
    let same = counted m slice counts is given in
    let most : (p : ℕ) → numbers p ≤ n = λ p. subst (λ k. k ≤ n) (sym (same p)) (count_within (slice_values m slice) p) in
    sorted ∙ by_falling_weight-ranked n numbers (param_numbers m) most
    ∙ ap (λ list. list ++ filter (λ p. nat_eq (numbers p) 0) (param_numbers m))
    (falling-same n numbers (count_in m slice) (param_numbers m) (λ p among. same p))
    ∙ ap (λ list. falling n (count_in m slice) (param_numbers m) ++ list)
    (filter_same (λ p. nat_eq (numbers p) 0) (λ p. nat_eq (count_in m slice p) 0) (param_numbers m) (λ p. ap (λ k. nat_eq k 0) (same p)))
