-- The first sequence that passes a test, among lists that are made by lengthening others.
use Rattle.std.proofs.Common.{◌≡◌, ℕ, zero, suc, ◌+◌, ◌<◌, ◌≤◌, Bool, true, false, not, ◌&&◌, List, [], ◌∷◌, ◌++◌, length, map, filter, take}
use Rattle.std.proofs.Common.{drop, get_or, Option, Some, None, IfNone, IfSome, nat_lt, All, refl, sym, ap, subst, ◌∙◌, arith, zero-add, add-one}
use Rattle.std.specs.List.{find, flat_map, range_with_len, slice_get}
use Rattle.std.specs.Option.{option_map, option_or}
use Rattle.std.proofs.Math.Seq.{take-length}
use Rattle.std.proofs.lemmas.Bool.{and_parts, lt-ltb, ltb-true}
use Rattle.std.proofs.lemmas.Grind.{flat_map-append}
use Rattle.std.proofs.lemmas.List.{append-nil, take-append-drop, take_more, length_push}
use Rattle.std.proofs.lemmas.List.Concat.{flat_map-cons}
use Rattle.std.proofs.lemmas.List.Elements.{All-nil, All-cons, All-append, All-map, All-filter, All-from_get_or, All-push, All-head, All-tail, All-get_or}
use Rattle.std.proofs.lemmas.List.Folds.{find_at, find-append}
use Rattle.std.proofs.lemmas.List.FromFn.{get_or-range_with_len, length-range_with_len}
use Rattle.std.proofs.lemmas.List.Sums.{position_or_len_is}
use Rattle.std.proofs.lemmas.Option.{slice_get-get_or}
use Rattle.seq_check.specs.believed.Orders.{distinct_lists, is_among, lengthened}
use Rattle.seq_check.specs.EventSets.{IsFront, OpenView, Tells, is_open}
use Rattle.value_text.proofs.ListLemmas.{nothing_found}

-- among items that were kept and changed
kept : (test : List ℕ → Bool) (f : ℕ → List ℕ) (q : ℕ → Bool) (xs : List ℕ) → find test (map f (filter q xs)) ≡ option_map f (find (λ x. q x && test (f x)) xs)
kept test f q [] = refl
kept test f q (x ∷ xs) = at (q x) refl (test (f x)) refl (kept test f q xs)
  where
    at :
        (keeps : Bool) → q x ≡ keeps → (passes : Bool) → test (f x) ≡ passes
        → find test (map f (filter q xs)) ≡ option_map f (find (λ y. q y && test (f y)) xs)
        → find test (map f (filter q (x ∷ xs))) ≡ option_map f (find (λ y. q y && test (f y)) (x ∷ xs))
    at true e true d rest = rw e (rw d refl)
    at true e false d rest = rw e (rw d rest)
    at false e passes d rest = rw e rest

-- the first number that passes
pub first_number : (p : ℕ → Bool) (n k : ℕ) → k < n → p k ≡ true → ((i : ℕ) → i < k → p i ≡ false) → find p (range_with_len 0 n) ≡ Some k
first_number p n k within passes fails =
    let read : (i : ℕ) → i < n → get_or (range_with_len 0 n) i 0 ≡ i = λ i below. get_or-range_with_len 0 n i 0 below ∙ zero-add i in
    let placed = position_or_len_is p (range_with_len 0 n) k 0 (rw (length-range_with_len 0 n) (omega arith))
    (λ i below. ap p (read i (omega arith)) ∙ fails i below) (λ _. ap p (read k within) ∙ passes) in
    find_at p (range_with_len 0 n) ∙ ap (slice_get (range_with_len 0 n)) placed
    ∙ slice_get-get_or (range_with_len 0 n) k 0 (rw (length-range_with_len 0 n) within) ∙ ap Some (read k within)

pub no_number : (p : ℕ → Bool) (n : ℕ) → ((i : ℕ) → i < n → p i ≡ false) → find p (range_with_len 0 n) ≡ None
no_number p n fails =
    nothing_found p (range_with_len 0 n) (All-from_get_or (λ x. p x ≡ false) (range_with_len 0 n) 0
    (λ i within. let below : i < n = rw length-range_with_len at within in ap p (get_or-range_with_len 0 n i 0 below ∙ zero-add i) ∙ fails i below))

pub swapped : (a b : Bool) → (a && b) ≡ (b && a)
swapped true true = refl
swapped true false = refl
swapped false true = refl
swapped false false = refl

-- the least event of a set that has the events below n with which a list is an open sequence
module _ (o : OpenView) (n : ℕ) (front : List ℕ) (few : n ≤ 64) (f : IsFront o.len n front) (member : ℕ → Bool)
    (is : (event : ℕ) → member event ≡ (is_open o front event && (nat_lt event n && not (is_among front event)))) (test : List ℕ → Bool) (tells : Tells o n test) where
  passes_as : (event : ℕ) → event < n → (not (is_among front event) && test (front ++ event ∷ [])) ≡ member event
  passes_as event below =
      swapped (not (is_among front event)) (test (front ++ event ∷ []))
      ∙ ap (λ t. t && not (is_among front event)) (sym (tells front event f below))
      ∙ ap (λ t. is_open o front event && (t && not (is_among front event))) (sym (lt-ltb event n below))
      ∙ sym (is event)

  pub first_lengthened : (least : Option ℕ)
      → IfNone least ((event : ℕ) → event < 64 → member event ≡ false)
      → IfSome least (λ k. (k < 64) × (member k ≡ true) × ((event : ℕ) → event < k → member event ≡ false))
      → option_map (λ last. front ++ last ∷ []) least ≡ find test (lengthened n front)
  first_lengthened None none some =
      sym (kept test (λ event. front ++ event ∷ []) (λ event. not (is_among front event)) (range_with_len 0 n)
      ∙ ap (option_map (λ last. front ++ last ∷ []))
      (no_number (λ event. not (is_among front event) && test (front ++ event ∷ [])) n (λ event below. passes_as event below ∙ none event (omega arith))))
  first_lengthened (Some k) none some =
      let within : k < n = ltb-true k n (and_parts (nat_lt k n) _ (and_parts (is_open o front k) _ (sym (is k) ∙ some.1)).1).0 in
      sym (kept test (λ event. front ++ event ∷ []) (λ event. not (is_among front event)) (range_with_len 0 n)
      ∙ ap (option_map (λ last. front ++ last ∷ [])) (first_number (λ event. not (is_among front event) && test (front ++ event ∷ [])) n k within (passes_as k within ∙ some.1)
      (λ event below. passes_as event (omega arith) ∙ some.2 event below)))

-- lists made from each list
module _ {X : Type 0} (test : List ℕ → Bool) (g : X → List (List ℕ)) (xs : List X) where
  pub found_later : (i : ℕ) (d : X) → i < length xs → find test (flat_map g (take i xs)) ≡ None → find test (flat_map g (take (i + 1) xs)) ≡ find test (g (get_or xs i d))
  found_later i d within none =
      ap (λ l. find test (flat_map g l)) (take_more xs i d within)
      ∙ ap (find test) (flat_map-append g (take i xs) (get_or xs i d ∷ []))
      ∙ find-append test (flat_map g (take i xs)) (flat_map g (get_or xs i d ∷ []))
      ∙ ap (λ o. option_or o (find test (flat_map g (get_or xs i d ∷ [])))) none
      ∙ ap (find test) (flat_map-cons g (get_or xs i d) [] ∙ append-nil (g (get_or xs i d)))

  pub found_first : (i : ℕ) (s : List ℕ) → i ≤ length xs → find test (flat_map g (take i xs)) ≡ Some s → find test (flat_map g xs) ≡ Some s
  found_first i s within some =
      ap (λ l. find test (flat_map g l)) (sym (take-append-drop i xs))
      ∙ ap (find test) (flat_map-append g (take i xs) (drop i xs))
      ∙ find-append test (flat_map g (take i xs)) (flat_map g (drop i xs))
      ∙ ap (λ o. option_or o (find test (flat_map g (drop i xs)))) some

  pub found_nowhere : (i : ℕ) → length xs ≤ i → i ≤ length xs → find test (flat_map g (take i xs)) ≡ None → find test (flat_map g xs) ≡ None
  found_nowhere i past within none =
      ap (λ l. find test (flat_map g l)) (sym (take-length xs) ∙ ap (λ n. take n xs) (let same : length xs ≡ i = omega arith in same)) ∙ none

-- what lists of distinct events are
abbrev pub IsList : ℕ → ℕ → List ℕ → Type 0
IsList n len list = (length list ≡ len) × All (λ event. event < n) list

pub all_flat : {X Y : Type 0} (P : Y → Type 0) (Q : X → Type 0) (g : X → List Y) (xs : List X) → ((x : X) → Q x → All P (g x)) → All Q xs → All P (flat_map g xs)
all_flat P Q g [] each all = All-nil P
all_flat P Q g (x ∷ xs) each all =
    rw (flat_map-cons g x xs) (All-append P (g x) (flat_map g xs) (each x (All-head Q x xs all)) (all_flat P Q g xs each (All-tail Q x xs all)))

pub lists_are : (n len : ℕ) → All (IsList n len) (distinct_lists n len)
lists_are n zero = All-cons (IsList n 0) [] [] (refl, All-nil (λ event. event < n)) (All-nil (IsList n 0))
lists_are n (suc len) = all_flat (IsList n (suc len)) (IsList n len) (lengthened n) (distinct_lists n len)
    (λ front is. All-map (IsList n (suc len)) (λ event. front ++ event ∷ []) (filter (λ event. not (is_among front event)) (range_with_len 0 n))
    (All-filter (λ event. not (is_among front event)) (λ event. IsList n (suc len) (front ++ event ∷ [])) (range_with_len 0 n)
    (All-from_get_or (λ event. IsList n (suc len) (front ++ event ∷ [])) (range_with_len 0 n) 0
    (λ i within.
    let below : i < n = rw length-range_with_len at within in
    let read = get_or-range_with_len 0 n i 0 below ∙ zero-add i in
    rw read (length_push front i ∙ ap (λ k. k + 1) is.0 ∙ add-one len, All-push (λ event. event < n) front i is.1 below)))))
    (lists_are n len)

-- one list after another, of all lists but for their last event
module _ (test : List ℕ → Bool) (n m len : ℕ) (items : List (List ℕ)) (are : items ≡ distinct_lists n m) (one_less : m + 1 ≡ len) where
  whole : flat_map (lengthened n) items ≡ distinct_lists n len
  whole = ap (flat_map (lengthened n)) are ∙ ap (distinct_lists n) (sym (add-one m) ∙ one_less)

  pub none_more : (i : ℕ) (d front : List ℕ) → i < length items → front ≡ get_or items i d → find test (flat_map (lengthened n) (take i items)) ≡ None
      → find test (lengthened n front) ≡ None → find test (flat_map (lengthened n) (take (i + 1) items)) ≡ None
  none_more i d front within is none fails = found_later test (lengthened n) items i d within none ∙ ap (λ l. find test (lengthened n l)) (sym is) ∙ fails

  pub some_open : (i : ℕ) (d front found : List ℕ) → i < length items → front ≡ get_or items i d → find test (flat_map (lengthened n) (take i items)) ≡ None
      → Some found ≡ find test (lengthened n front) → Some found ≡ find test (distinct_lists n len)
  some_open i d front found within is none passes =
      sym (found_first test (lengthened n) items (i + 1) found (omega arith)
      (found_later test (lengthened n) items i d within none ∙ ap (λ l. find test (lengthened n l)) (sym is) ∙ sym passes)) ∙ ap (find test) whole

  pub none_open : (i : ℕ) → length items ≤ i → i ≤ length items → find test (flat_map (lengthened n) (take i items)) ≡ None → None ≡ find test (distinct_lists n len)
  none_open i past within none = sym (found_nowhere test (lengthened n) items i past within none) ∙ ap (find test) whole

  pub list_is : (i : ℕ) (d front : List ℕ) → i < length items → front ≡ get_or items i d → IsFront len n front
  list_is i d front within is =
      let it : IsList n m (get_or items i d) = All-get_or (IsList n m) items i d within (subst (All (IsList n m)) (sym are) (lists_are n m)) in
      subst (IsFront len n) (sym is) (record { long = ap (λ k. k + 1) it.0 ∙ one_less; exist = it.1 })
