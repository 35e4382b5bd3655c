-- Facts of Bool, Option, Result, lists and numbers that several crates need and the standard library has not.
use Rattle.std.proofs.Common.{◌≡◌, ℕ, zero, suc, ◌+◌, ◌-◌, ◌*◌, ◌<◌, ◌≤◌, Bool, true, false, not, cond, ◌&&◌, ◌||◌, ◌==◌, nat_lt, nat_eq, Option, Some, None, is_some}
use Rattle.std.proofs.Common.{unwrap_or, Result, Ok, Err, List, [], ◌∷◌, ◌++◌, map, filter, length, replicate, get_or, All, inl, inr, refl, sym, ◌∙◌, ap, arith}
use Rattle.std.proofs.Common.{position, find, count_by, flat_map, subst, append_assoc, append-nil, length-append, zero-add}
use Rattle.std.proofs.lemmas.Bool.{false≢true, cond-true, eqb-true, lt-ltb, cases_lt, cond-false}
use Rattle.std.proofs.lemmas.Bool.Decides.{nat_tests}
use Rattle.std.proofs.lemmas.List.{map-id, same_lists, get_or-replicate, get_or_default, get_or_past, length-map, length-replicate}
use Rattle.std.proofs.lemmas.List.Elements.{All-head, All-tail, filter-append}
use Rattle.std.proofs.lemmas.List.FromFn.{map-range_with_len_more, length-map-range_with_len, length-range_with_len, get_or-map-range_with_len, get_or-range_with_len}
use Rattle.std.proofs.lemmas.List.Sums.{length-filter, count_by-le-length, position_or_len_is}
use Rattle.std.proofs.Math.Bool.{and_comm, or_assoc, or_self}
use Rattle.std.specs.List.{list_any, position_or_len, range_with_len, prefix_len}
use Rattle.std.specs.Option.{option_or, option_map_or, option_map, IfSome}
use Rattle.std.proofs.lemmas.Grind.{flat_map-append}
use Rattle.std.proofs.lemmas.List.Folds.{fold-map}
use Rattle.std.specs.Str.{bytes_eq}
use Rattle.std.specs.Result.{IsErrAnd}

-- ---- tests

-- a test that stands twice
pub or_twice : (a b : Bool) → (a || b) ≡ (a || (a || b))
or_twice a b = ap (λ c. c || b) (sym (or_self a)) ∙ or_assoc a a b

-- two pairs of tests, paired the other way
pub or_or : (a b c d : Bool) → ((a || b) || (c || d)) ≡ ((a || c) || (b || d))
or_or true b c d = refl
or_or false true true d = refl
or_or false true false d = refl
or_or false false c d = refl

-- neither of two; what two tests take away together
pub not_or : (a b : Bool) → not (a || b) ≡ (not a && not b)
not_or true b = refl
not_or false b = refl

pub and_not-or : (a b : Bool) → (not a && not b) ≡ not (a || (b || false))
and_not-or true b = refl
and_not-or false true = refl
and_not-or false false = refl

pub and_not-and_not : (a b c : Bool) → ((a && not b) && not c) ≡ (a && not (b || c))
and_not-and_not true true c = refl
and_not-and_not true false c = refl
and_not-and_not false b c = refl

-- ---- options and results

-- an option that isn't given is none
pub none_of : {X : Type 0} (o : Option X) → is_some o ≡ false → o ≡ None
none_of None absent = refl
none_of (Some x) absent = absurd (false≢true (sym absent))

-- some item passes where one is found
pub list_any-find : {X : Type 0} (test : X → Bool) (xs : List X) → list_any test xs ≡ is_some (find test xs)
list_any-find test [] = refl
list_any-find test (x ∷ xs) = by_case (test x) (list_any-find test xs)
  where
    by_case : (b : Bool) → list_any test xs ≡ is_some (find test xs) → (b || list_any test xs) ≡ is_some (cond b (Some x) (find test xs))
    by_case true rest = refl
    by_case false rest = rest

-- a function of what is given gives as often
pub is_some-map : {X Y : Type 0} (f : X → Y) (o : Option X) → is_some (option_map f o) ≡ is_some o
is_some-map f (Some x) = refl
is_some-map f None = refl

-- an option, or none
pub option_or-None : {X : Type 0} (o : Option X) → option_or o None ≡ o
option_or-None None = refl
option_or-None (Some x) = refl

-- neither of two options is given
pub option_or_parts : {X : Type 0} (a b : Option X) → option_or a b ≡ None → (a ≡ None) × (b ≡ None)
option_or_parts None b none = (refl, none)
option_or_parts (Some x) b none = cc

-- an option that is given is its value
pub Some-unwrap_or : {X : Type 0} (o : Option X) (d : X) → is_some o ≡ true → o ≡ Some (unwrap_or o d)
Some-unwrap_or (Some x) d given = refl
Some-unwrap_or None d given = absurd (false≢true given)

-- an option with a number that is equal to another
pub Some-from_equal : (o : Option ℕ) (n : ℕ) → option_map_or (λ k. nat_eq k n) o false ≡ true → o ≡ Some n
Some-from_equal None n equal = absurd (false≢true equal)
Some-from_equal (Some k) n equal = ap Some (eqb-true k n equal)

-- what is said of what an option holds
pub at_held : {A : Type 0} (P : A → Type 0) (o : Option A) (x : A) → o ≡ Some x → IfSome o P → P x
at_held P o x e h = subst (λ found. IfSome found P) e h

-- a result is not both
pub ok-err : {T E : Type 0} {r : Result T E} (x : T) (e : E) → r ≡ Ok x → r ≡ Err e → ⊥
ok-err x e ok err = cc

-- a result has one answer
pub one_ok : {T E : Type 0} {r : Result T E} {x y : T} → r ≡ Ok x → r ≡ Ok y → x ≡ y
one_ok e f = cc

pub one_err : {T E : Type 0} {r : Result T E} {x y : E} → r ≡ Err x → r ≡ Err y → x ≡ y
one_err e f = cc

-- a result that is this error
pub is_err : {T E : Type 0} {r : Result T E} {e : E} → IsErrAnd r (λ other. other ≡ e) → r ≡ Err e
is_err {r = Ok x} is = absurd is
is_err {r = Err other} is = ap Err is

-- nothing is added to what is given
pub add_zero : (o : Option ℕ) → o ≡ option_map (λ n. 0 + n) o
add_zero None = refl
add_zero (Some n) = ap Some (omega arith)

-- ---- filters

-- a filter keeps no more than there is
pub length-filter-le : {X : Type 0} (p : X → Bool) (xs : List X) → length (filter p xs) ≤ length xs
length-filter-le p xs = omega (arith, length-filter p xs, count_by-le-length p xs)

-- a filter that each item passes
pub filter_all : {X : Type 0} (p : X → Bool) (xs : List X) → All (λ x. p x ≡ true) xs → filter p xs ≡ xs
filter_all p [] pass = refl
filter_all p (x ∷ xs) pass =
    cond-true (p x) _ _ (All-head (λ y. p y ≡ true) x xs pass) ∙ ap (λ ys. x ∷ ys) (filter_all p xs (All-tail (λ y. p y ≡ true) x xs pass))

-- tests that agree on each item
pub filter_same : {X : Type 0} (p q : X → Bool) (xs : List X) → ((x : X) → p x ≡ q x) → filter p xs ≡ filter q xs
filter_same p q [] same = refl
filter_same p q (x ∷ xs) same =
    ap (λ (b : Bool). cond b (x ∷ filter p xs) (filter p xs)) (same x) ∙ ap (λ rest. cond (q x) (x ∷ rest) rest) (filter_same p q xs same)

-- a filter of what a function gives
pub filter-map : {X Y : Type 0} (test : Y → Bool) (f : X → Y) (xs : List X) → filter test (map f xs) ≡ map f (filter (λ x. test (f x)) xs)
filter-map test f [] = refl
filter-map test f (x ∷ xs) =
    ap (λ rest. cond (test (f x)) (f x ∷ rest) rest) (filter-map test f xs) ∙ at (test (f x)) (filter (λ y. test (f y)) xs)
  where
    at : (b : Bool) (rest : List _) → cond b (f x ∷ map f rest) (map f rest) ≡ map f (cond b (x ∷ rest) rest)
    at true rest = refl
    at false rest = refl

-- one filter after another
pub filter-filter : {X : Type 0} (p q : X → Bool) (xs : List X) → filter p (filter q xs) ≡ filter (λ x. q x && p x) xs
filter-filter p q [] = refl
filter-filter p q (x ∷ xs) = at (q x) (filter-filter p q xs)
  where
    at : (b : Bool) → filter p (filter q xs) ≡ filter (λ y. q y && p y) xs
        → filter p (cond b (x ∷ filter q xs) (filter q xs)) ≡ cond (b && p x) (x ∷ filter (λ y. q y && p y) xs) (filter (λ y. q y && p y) xs)
    at true later = ap (λ rest. cond (p x) (x ∷ rest) rest) later
    at false later = later

-- in either order
pub filter_swap : {X : Type 0} (p q : X → Bool) (xs : List X) → filter p (filter q xs) ≡ filter q (filter p xs)
filter_swap p q xs = filter-filter p q xs ∙ filter_same _ _ xs (λ x. and_comm (q x) (p x)) ∙ sym (filter-filter q p xs)

-- ---- lists

-- whether an item of a list that a function gave passes
pub list_any-map : {X Y : Type 0} (p : Y → Bool) (f : X → Y) (xs : List X) → list_any p (map f xs) ≡ list_any (λ x. p (f x)) xs
list_any-map p f [] = refl
list_any-map p f (x ∷ xs) = ap (λ b. p (f x) || b) (list_any-map p f xs)

-- an item passes exactly where the first that passes stands within the list
pub list_any-position : {X : Type 0} (p : X → Bool) (xs : List X) → list_any p xs ≡ nat_lt (position_or_len p xs) (length xs)
list_any-position p [] = refl
list_any-position p (x ∷ xs) =
    let rest = list_any-position p xs in
    elim (p x) as (λ b. b || list_any p xs ≡ nat_lt (cond (not b) (1 + position_or_len p xs) 0) (suc (length xs))) [
      | true ↦ grind (arith, nat_tests)
      | false ↦ rest ∙ grind (arith, nat_tests)
    ]

-- how many items of a list that a function gave pass
pub count_map : {X Y : Type 0} (p : Y → Bool) (f : X → Y) (xs : List X) → count_by p (map f xs) ≡ count_by (λ x. p (f x)) xs
count_map p f xs = fold-map (λ s y. s + cond (p y) 1 0) f 0 xs

-- as many marks are set as items pass
pub count_marks : {X : Type 0} (test : X → Bool) (items : List X) → length (filter (λ mark. mark) (map test items)) ≡ length (filter test items)
count_marks test items =
    length-filter (λ mark. mark) (map test items) ∙ count_map (λ mark. mark) test items ∙ sym (length-filter test items)

-- where each item fails the test, nothing is found
pub nothing_found : {X : Type 0} (test : X → Bool) (xs : List X) → All (λ x. test x ≡ false) xs → find test xs ≡ None
nothing_found test [] fail = refl
nothing_found test (x ∷ xs) fail =
    cond-false (test x) _ _ (All-head (λ y. test y ≡ false) x xs fail) ∙ nothing_found test xs (All-tail (λ y. test y ≡ false) x xs fail)

-- the first that passes, by those before it
pub position_is : {X : Type 0} (p : X → Bool) (xs : List X) (i : ℕ) (d : X) → i < length xs → ((k : ℕ) → k < i → p (get_or xs k d) ≡ false) → p (get_or xs i d) ≡ true
    → position p xs ≡ Some i
position_is p xs i d within fails passes =
    ap (λ n. cond (nat_lt n (length xs)) (Some n) None) (position_or_len_is p xs i d (omega (arith, within)) fails (λ _. passes))
    ∙ ap (λ b. cond b (Some i) None) (lt-ltb i (length xs) within)

-- a text among those of keys
module _ {K : Type 0} (text : K → List ℕ) (q : List ℕ) where
  pub any_text : (keys : List K) → list_any (λ key. bytes_eq q (text key)) keys ≡ list_any (bytes_eq q) (map text keys)
  any_text [] = refl
  any_text (key ∷ keys) = ap (λ b. bytes_eq q (text key) || b) (any_text keys)

  others_text : (keys : List K) → prefix_len (λ key. not (bytes_eq q (text key))) keys ≡ prefix_len (λ t. not (bytes_eq q t)) (map text keys)
  others_text [] = refl
  others_text (key ∷ keys) = ap (λ n. cond (not (bytes_eq q (text key))) (1 + n) 0) (others_text keys)

  pub place_text : (keys : List K) → position (λ key. bytes_eq q (text key)) keys ≡ position (bytes_eq q) (map text keys)
  place_text keys =
      ap (λ n. cond (nat_lt n (length keys)) (Some n) None) (others_text keys)
      ∙ ap (λ n. cond (nat_lt (position_or_len (bytes_eq q) (map text keys)) n) (Some (position_or_len (bytes_eq q) (map text keys))) None) (sym (length-map keys text))

-- where each cell is empty there is no value at any place, past the end too
pub none_at : (n p : ℕ) → get_or {A = Option ℕ} (replicate n None) p None ≡ None
none_at n p = elim (cases_lt p n) [
  | inl within ↦ get_or-replicate n p None None within
  | inr past ↦ get_or_past (replicate n None) p None (omega (arith, past, length-replicate {A = Option ℕ} n None))
]

-- one number more
pub range_with_len_more : (a n : ℕ) → range_with_len a (n + 1) ≡ range_with_len a n ++ (a + n) ∷ []
range_with_len_more a n =
    sym (map-id (range_with_len a (n + 1))) ∙ map-range_with_len_more (λ k. k) a n (a + n) refl ∙ ap (λ list. list ++ (a + n) ∷ []) (map-id (range_with_len a n))

pub range-more : (n : ℕ) → range_with_len 0 (n + 1) ≡ range_with_len 0 n ++ n ∷ []
range-more n = range_with_len_more 0 n ∙ ap (λ k. range_with_len 0 n ++ k ∷ []) (zero-add n)

-- the numbers from one on are it and those behind it
pub range_step : (p count : ℕ) → p < count → range_with_len p (count - p) ≡ p ∷ range_with_len (p + 1) (count - (p + 1))
range_step p count within =
    let longer : count - p ≡ suc (count - (p + 1)) = omega (arith, within) in
    ap (range_with_len p) longer

-- the numbers below one are below it
pub below_all : (n : ℕ) → All (λ x. x < n) (range_with_len 0 n)
below_all n = λ k d within. omega (arith, length-range_with_len 0 n, get_or-range_with_len 0 n k d (omega (arith, length-range_with_len 0 n, within)))

-- how many of them pass
pub passing-count : (test : ℕ → Bool) (n : ℕ) → length (filter test (range_with_len 0 (n + 1))) ≡ length (filter test (range_with_len 0 n)) + cond (test n) 1 0
passing-count test n =
    ap (λ ks. length (filter test ks)) (range-more n) ∙ ap length (filter-append test (range_with_len 0 n) (n ∷ []))
    ∙ length-append (filter test (range_with_len 0 n)) (cond (test n) (n ∷ []) []) ∙ ap (λ k. length (filter test (range_with_len 0 n)) + k) (at (test n))
  where
    at : (b : Bool) → length (cond b (n ∷ []) []) ≡ cond b 1 0
    at true = refl
    at false = refl

-- the texts of the numbers below one more
pub text_more : (f : ℕ → List ℕ) (n : ℕ) (before now after : List ℕ) → now ≡ before ++ flat_map f (range_with_len 0 n) → after ≡ now ++ f n
    → after ≡ before ++ flat_map f (range_with_len 0 (n + 1))
text_more f n before now after so_far next =
    next ∙ ap (λ text. text ++ f n) so_far ∙ append_assoc before (flat_map f (range_with_len 0 n)) (f n)
    ∙ ap (λ text. before ++ text) (sym
    (ap (flat_map f) (range-more n) ∙ flat_map-append f (range_with_len 0 n) (n ∷ []) ∙ ap (λ text. flat_map f (range_with_len 0 n) ++ text) (append-nil (f n))))

-- the items at all places
pub map-get_or-range_with_len : {X : Type 0} (xs : List X) (d : X) → map (λ i. get_or xs i d) (range_with_len 0 (length xs)) ≡ xs
map-get_or-range_with_len xs d =
    let long = length-map-range_with_len (λ i. get_or xs i d) 0 (length xs) in
    same_lists _ xs long (λ k e within.
    let inside : k < length xs = omega (arith, within, long) in
    get_or-map-range_with_len (λ i. get_or xs i d) 0 (length xs) k k e inside (omega arith) ∙ get_or_default xs k d e inside)

-- ---- numbers

-- equal summands do not change whether two sums are equal
pub eqb-add_left : (k m n : ℕ) → (k + m == k + n) ≡ (m == n)
eqb-add_left k m n = grind (arith, nat_tests)

-- a product that is not 0 has factors that are not
pub pos_left_of_mul : (a b : ℕ) → 0 < a * b → 0 < a
pos_left_of_mul zero b some = absurd (grind (arith, some))
pos_left_of_mul (suc a) b some = omega arith

pub pos_right_of_mul : (a b : ℕ) → 0 < a * b → 0 < b
pos_right_of_mul a zero some = absurd (grind (arith, some))
pos_right_of_mul a (suc b) some = omega arith
