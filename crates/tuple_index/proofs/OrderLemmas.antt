-- The distinct sets of a list, in lexicographic order.
use Rattle.std.proofs.Common.{Ordering, Less, Equal, Greater, ◌≡◌, ℕ, zero, suc, ◌+◌, ◌<◌, ◌≤◌, Bool, true, false, ◌||◌, ◌&&◌}
use Rattle.std.proofs.Common.{List, [], ◌∷◌, All, map, length, get_or, ◌∙◌, refl, sym, subst, ap, arith}
use Rattle.std.specs.List.{AllByRecursion, dedup, dedup_from, filter, list_any, range_with_len}
use Rattle.std.specs.List.Sorted.{IsPermutation, IsSorted, IsStrictlySortedBy}
use Rattle.std.specs.Ordering.{is_lt, is_eq}
use Rattle.std.specs.Cmp.Lexicographic.{on_texts}
use Rattle.std.specs.Str.{bytes_eq}
use Rattle.std.proofs.lemmas.Bool.{false≢true}
use Rattle.std.proofs.lemmas.Cmp.{nat_list_cmp_total, tied_itself}
use Rattle.std.proofs.lemmas.Map.Lookups.{exact_bytes}
use Rattle.std.proofs.lemmas.Map.Text.{is_eq-slice_cmp}
use Rattle.std.proofs.lemmas.Slice.Eq.{bytes_eq-Decides}
use Rattle.std.proofs.lemmas.List.Kept.{IsStrictlySortedBy-dedup}
use Rattle.std.proofs.lemmas.List.Sorted.{list_any-IsPermutation}
use Rattle.std.proofs.lemmas.List.Elements.{All-from_recursion}
use Rattle.std.proofs.Math.Bool.{and-false, and-true}
use Rattle.value_text.proofs.ListLemmas.{list_any-map, or_twice}
use Rattle.cov_model.specs.believed.Sound.{ModelView}
use Rattle.definitions.specs.believed.Demand.{choices, demanded_sets, in_order, is_among, rising, with_set}
use Rattle.definitions.proofs.SetOrder.{lex, flipped, above_more, sorted_in_order, each_in_order}
use Rattle.tuple_index.specs.Places.{RisesFrom}
use Rattle.tuple_index.proofs.ListingLemmas.{rises_lower}

or_swap : (a b c : Bool) → (b || (a || c)) ≡ (a || (b || c))
or_swap true true c = refl
or_swap true false c = refl
or_swap false true c = refl
or_swap false false c = refl

-- what one set and others pass, and what the others pass with it among them
any_with_set : (p : List ℕ → Bool) (set : List ℕ) (sets : List (List ℕ)) → list_any p (with_set set sets) ≡ (p set || list_any p sets)
any_with_set p set [] = refl
any_with_set p set (other ∷ sets) = by_order (lex set other) refl (any_with_set p set sets)
  where
    by_order : (o : Ordering) → lex set other ≡ o → list_any p (with_set set sets) ≡ (p set || list_any p sets)
        → list_any p (with_set set (other ∷ sets)) ≡ (p set || list_any p (other ∷ sets))
    by_order Less e rest = rw e refl
    by_order Equal e rest =
        let same : p other ≡ p set = ap p (sym (exact_bytes set other e)) in
        rw (e, same) (or_twice (p set) (list_any p sets))
    by_order Greater e rest = rw (e, rest) (or_swap (p set) (p other) (list_any p sets))

pub any_in_order : (p : List ℕ → Bool) (sets : List (List ℕ)) → list_any p (in_order sets) ≡ list_any p sets
any_in_order p [] = refl
any_in_order p (set ∷ sets) = any_with_set p set (in_order sets) ∙ ap (λ b. p set || b) (any_in_order p sets)

-- there are no more of them
few_with_set : (set : List ℕ) (sets : List (List ℕ)) → length (with_set set sets) ≤ length sets + 1
few_with_set set [] = omega arith
few_with_set set (other ∷ sets) = by_order (lex set other) refl (few_with_set set sets)
  where
    by_order : (o : Ordering) → lex set other ≡ o → length (with_set set sets) ≤ length sets + 1 → length (with_set set (other ∷ sets))
        ≤ length (other ∷ sets) + 1
    by_order Less e rest = rw e (omega arith)
    by_order Equal e rest = rw e (omega arith)
    by_order Greater e rest = rw e (omega (arith, rest))

pub few_in_order : (sets : List (List ℕ)) → length (in_order sets) ≤ length sets
few_in_order [] = omega arith
few_in_order (set ∷ sets) = omega (arith, few_with_set set (in_order sets), few_in_order sets)

-- the demanded sets rise
filter_rises : (f : ℕ → Bool) (p n e : ℕ) → e ≡ p + n → RisesFrom p e (filter f (range_with_len p n))
filter_rises f p zero e end = tt
filter_rises f p (suc n) e end = by_test (f p) refl (filter_rises f (p + 1) n e (omega (arith, end)))
  where
    by_test : (b : Bool) → f p ≡ b → RisesFrom (p + 1) e (filter f (range_with_len (p + 1) n)) → RisesFrom p e (filter f (range_with_len p (suc n)))
    by_test true test rest = rw test (omega arith, omega (arith, end), rest)
    by_test false test rest = rw test (rises_lower (filter f (range_with_len (p + 1) n)) (p + 1) p e (omega arith) rest)

pub each_rises : (m : ModelView) → AllByRecursion (RisesFrom 0 (length m.params)) (demanded_sets m)
each_rises m = each_in_order (RisesFrom 0 (length m.params)) (map (rising m) (choices m)) (each (choices m))
  where
    each : (picks : List (List ℕ)) → AllByRecursion (RisesFrom 0 (length m.params)) (map (rising m) picks)
    each [] = tt
    each (pick ∷ picks) = (filter_rises (is_among pick) 0 (length m.params) (length m.params) (omega arith), each picks)

pub demanded_rise : (m : ModelView) → All (RisesFrom 0 (length m.params)) (demanded_sets m)
demanded_rise m = All-from_recursion (RisesFrom 0 (length m.params)) (demanded_sets m) (each_rises m)

-- a list without what is below all of it
none_below : (x : List ℕ) (ys : List (List ℕ)) → AllByRecursion (λ y. lex x y ≡ Less) ys → list_any (λ y. is_eq (lex x y)) ys ≡ false
none_below x [] above = refl
none_below x (y ∷ ys) above =
    let rest = none_below x ys above.1 in
    let own = above.0 in
    rw (own, rest) refl

absent : (x y : List ℕ) (xs ys : List (List ℕ)) → lex x y ≡ Less → IsStrictlySortedBy lex (y ∷ ys)
    → ((p : List ℕ → Bool) → list_any p (x ∷ xs) ≡ list_any p (y ∷ ys)) → ⊥
unfolding IsStrictlySortedBy
absent x y xs ys below sorted same =
    let here : list_any (λ z. is_eq (lex x z)) (x ∷ xs) ≡ true = rw (tied_itself nat_list_cmp_total x) refl in
    let there : list_any (λ z. is_eq (lex x z)) (y ∷ ys) ≡ false = none_below x (y ∷ ys) (below, above_more x y ys below sorted.0) in
    false≢true (sym there ∙ sym (same (λ z. is_eq (lex x z))) ∙ here)

-- above a set a test and its being above are passed alike
any_above : (p : List ℕ → Bool) (x : List ℕ) (zs : List (List ℕ)) → AllByRecursion (λ z. lex x z ≡ Less) zs → list_any (λ z. p z && is_lt (lex x z)) zs
    ≡ list_any p zs
any_above p x [] above = refl
any_above p x (z ∷ zs) above =
    let rest = any_above p x zs above.1 in
    let own : (p z && is_lt (lex x z)) ≡ p z = ap (λ o. p z && is_lt o) above.0 ∙ and-true (p z) in
    rw (own, rest) refl

above_same : (x y : List ℕ) (zs : List (List ℕ)) → lex x y ≡ Equal → AllByRecursion (λ z. lex y z ≡ Less) zs → AllByRecursion (λ z. lex x z ≡ Less) zs
above_same x y [] e above = tt
above_same x y (z ∷ zs) e above = (nat_list_cmp_total.congr x y z e ∙ above.0, above_same x y zs e above.1)

-- two rising lists whose members pass the same tests are one
pub same_sets : (xs ys : List (List ℕ)) → IsStrictlySortedBy lex xs → IsStrictlySortedBy lex ys
    → ((p : List ℕ → Bool) → list_any p xs ≡ list_any p ys) → xs ≡ ys
unfolding IsStrictlySortedBy
same_sets [] [] sorted other same = refl
same_sets [] (y ∷ ys) sorted other same = absurd (false≢true (same (λ z. true)))
same_sets (x ∷ xs) [] sorted other same = absurd (false≢true (sym (same (λ z. true))))
same_sets (x ∷ xs) (y ∷ ys) sorted other same = by_order (lex x y) refl (same_sets xs ys sorted.1 other.1)
  where
    tails : lex x y ≡ Equal → (p : List ℕ → Bool) → list_any p xs ≡ list_any p ys
    tails e p =
        let first : (p x && is_lt (lex x x)) ≡ false = ap (λ o. p x && is_lt o) (tied_itself nat_list_cmp_total x) ∙ and-false (p x) in
        let second : (p y && is_lt (lex x y)) ≡ false = ap (λ o. p y && is_lt o) e ∙ and-false (p y) in
        sym (any_above p x xs sorted.0)
        ∙ ap (λ b. b || list_any (λ z. p z && is_lt (lex x z)) xs) (sym first)
        ∙ same (λ z. p z && is_lt (lex x z))
        ∙ ap (λ b. b || list_any (λ z. p z && is_lt (lex x z)) ys) second
        ∙ any_above p x ys (above_same x y ys e other.0)

    by_order : (o : Ordering) → lex x y ≡ o → (((p : List ℕ → Bool) → list_any p xs ≡ list_any p ys) → xs ≡ ys) → x ∷ xs ≡ y ∷ ys
    by_order Less e rest = absurd (absent x y xs ys e other same)
    by_order Equal e rest = ap (λ z. z ∷ xs) (exact_bytes x y e) ∙ ap (λ zs. y ∷ zs) (rest (tails e))
    by_order Greater e rest = absurd (absent y x ys xs (flipped x y e) sorted (λ p. sym (same p)))

-- what repeats nothing new is left out
any_dedup_from : {X : Type 0} (E : X → X → Bool) (p : X → Bool) (k : X) (xs : List X) → ((x y : X) → E x y ≡ true → p x ≡ p y)
    → list_any p (dedup_from E k xs) ≡ (p k || list_any p xs)
any_dedup_from E p k [] same = refl
any_dedup_from E p k (x ∷ xs) same = by_test (E x k) refl (any_dedup_from E p k xs same) (any_dedup_from E p x xs same)
  where
    by_test : (b : Bool) → E x k ≡ b → list_any p (dedup_from E k xs) ≡ (p k || list_any p xs) → list_any p (dedup_from E x xs) ≡ (p x || list_any p xs)
        → list_any p (dedup_from E k (x ∷ xs)) ≡ (p k || list_any p (x ∷ xs))
    by_test true test kept next =
        let equal : p x ≡ p k = same x k test in
        rw (test, kept, equal) (or_twice (p k) (list_any p xs))
    by_test false test kept next = rw (test, next) refl

pub any_dedup : {X : Type 0} (E : X → X → Bool) (p : X → Bool) (xs : List X) → ((x y : X) → E x y ≡ true → p x ≡ p y) → list_any p (dedup E xs) ≡ list_any p xs
any_dedup E p [] same = refl
any_dedup E p (x ∷ xs) same = any_dedup_from E p x xs same

-- sorted by a part, the parts are sorted
pub sorted_parts : {X : Type 0} (f : X → List ℕ) (xs : List X) → IsStrictlySortedBy (λ x y. lex (f x) (f y)) xs → IsStrictlySortedBy lex (map f xs)
unfolding IsStrictlySortedBy
sorted_parts f [] sorted = tt
sorted_parts f (x ∷ xs) sorted = (each f x xs sorted.0, sorted_parts f xs sorted.1)
  where
    each : {X : Type 0} (f : X → List ℕ) (x : X) (ys : List X) → AllByRecursion (λ y. lex (f x) (f y) ≡ Less) ys
        → AllByRecursion (λ z. lex (f x) z ≡ Less) (map f ys)
    each f x [] above = tt
    each f x (y ∷ ys) above = (above.0, each f x ys above.1)

-- what is sorted and loses its repetitions is in order
pub ordered_parts : {X : Type 0} (f : X → List ℕ) (before sorted after : List X) → IsPermutation before sorted → IsSorted (λ x y. lex (f x) (f y)) sorted
    → after ≡ dedup (λ x y. bytes_eq (f x) (f y)) sorted → map f after ≡ in_order (map f before)
ordered_parts f before sorted after moved rises left =
    let strictly = IsStrictlySortedBy-dedup (on_texts f) (λ x y. sym (is_eq-slice_cmp (f x) (f y))) sorted rises in
    let alike : (p : List ℕ → Bool) → list_any p (map f after) ≡ list_any p (in_order (map f before)) = λ p.
    list_any-map p f after ∙ ap (list_any (λ x. p (f x))) left
    ∙ any_dedup (λ x y. bytes_eq (f x) (f y)) (λ x. p (f x)) sorted (λ x y same. ap p ((bytes_eq-Decides (f x) (f y)).0 same))
    ∙ sym (list_any-IsPermutation (λ x. p (f x)) before sorted moved)
    ∙ sym (list_any-map p f before) ∙ sym (any_in_order p (map f before)) in
    same_sets (map f after) (in_order (map f before))
    (sorted_parts f after (subst (IsStrictlySortedBy (λ x y. lex (f x) (f y))) (sym left) strictly))
    (sorted_in_order (map f before)) alike

-- an order that passes the test for less
pub is_less : (order : Ordering) → is_lt order ≡ true → order ≡ Less
is_less Less e = refl
is_less Equal e = absurd (false≢true e)
is_less Greater e = absurd (false≢true e)

-- each set stands before the next one
abbrev pub Steps : List (List ℕ) → Type 0
Steps sets = (i : ℕ) → i + 1 < length sets → is_lt (lex (get_or sets i []) (get_or sets (i + 1) [])) ≡ true

first_step : (set next : List ℕ) (sets : List (List ℕ)) → Steps (set ∷ next ∷ sets) → lex set next ≡ Less
first_step set next sets steps = is_less (lex set next) (steps 0 (omega arith))

later_steps : (set : List ℕ) (sets : List (List ℕ)) → Steps (set ∷ sets) → Steps sets
later_steps set sets steps i within =
    let e : suc i + 1 ≡ suc (i + 1) = omega arith in
    subst (λ k. is_lt (lex (get_or sets i []) (get_or (set ∷ sets) k [])) ≡ true) e (steps (suc i) (omega (arith, within)))

-- such sets are in order
strictly_sorted : (sets : List (List ℕ)) → Steps sets → IsStrictlySortedBy lex sets
unfolding IsStrictlySortedBy
strictly_sorted [] steps = tt
strictly_sorted (set ∷ []) steps = (tt, tt)
strictly_sorted (set ∷ next ∷ sets) steps =
    let first = first_step set next sets steps in
    let later = strictly_sorted (next ∷ sets) (later_steps set (next ∷ sets) steps) in
    ((first, above_more set next sets first later.0), later)

pub in_order_itself : (sets : List (List ℕ)) → Steps sets → sets ≡ in_order sets
in_order_itself sets steps = same_sets sets (in_order sets) (strictly_sorted sets steps) (sorted_in_order sets) (λ p. sym (any_in_order p sets))
