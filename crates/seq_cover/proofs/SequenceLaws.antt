-- The listed sequences are the lists of so many distinct events.
use Rattle.std.proofs.Common.{◌≡◌, ℕ, zero, suc, ◌<◌, Bool, true, false, ◌&&◌, ◌||◌, not, List, [], ◌∷◌, ◌++◌, length, map}
use Rattle.std.proofs.Common.{filter, eqb, nat_lt, get_or, All, refl, sym, ap, subst, ◌∙◌, arith, zero-add, length-append}
use Rattle.std.specs.List.{flat_map, list_all, range_with_len}
use Rattle.std.proofs.lemmas.Bool.{and_from, and_parts, both_ways, cond-false, cond-true, eq-eqb, eqb-true, lt-ltb, ltb-true, not-true, not_from_false}
use Rattle.std.proofs.lemmas.List.Concat.{flat_map-cons}
use Rattle.std.proofs.lemmas.List.Elements.{All-cons, All-head, All-map, All-nil, All-tail, All-weaker, filter_passes}
use Rattle.std.proofs.lemmas.List.Folds.{list_all-append}
use Rattle.std.proofs.lemmas.List.FromFn.{get_or-range_with_len, length-range_with_len}
use Rattle.std.proofs.lemmas.List.Sums.{AllPass-from_list_all, list_all-from_AllPass}
use Rattle.seq_check.proofs.FindLemmas.{all_flat, lists_are}
use Rattle.seq_check.proofs.StepLemmas.{apart, distinct_step}
use Rattle.seq_check.specs.believed.Events.{EventsView}
use Rattle.seq_check.specs.believed.Orders.{distinct_lists, is_among, is_sequence, lengthened, sequences, steps}

-- ---- one event more

both_parts : (a b c d : Bool) → ((a && (not c && true)) && (b && not d)) ≡ ((a && b) && not (c || d))
both_parts true true true d = refl
both_parts true true false d = refl
both_parts true false true d = refl
both_parts true false false d = refl
both_parts false b c d = refl

-- no event stands twice exactly where none does before, and the last one is another
apart_push : (front : List ℕ) (x : ℕ) → list_all apart (steps (front ++ x ∷ [])) ≡ (list_all apart (steps front) && not (is_among front x))
apart_push [] x = refl
apart_push (event ∷ front) x =
    distinct_step (event ∷ front ++ x ∷ []) (omega arith)
    ∙ ap (λ b. b && list_all apart (steps (front ++ x ∷ []))) (list_all-append (λ other. not (eqb event other)) front (x ∷ []))
    ∙ ap (λ b. (list_all (λ other. not (eqb event other)) front && (not (eqb event x) && true)) && b) (apart_push front x)
    ∙ both_parts (list_all (λ other. not (eqb event other)) front) (list_all apart (steps front)) (eqb event x) (is_among front x)
    ∙ ap (λ b. b && not (eqb event x || is_among front x)) (sym (distinct_step (event ∷ front) (omega arith)))

-- ---- what is listed

distinct_are : (n len : ℕ) → All (λ list. list_all apart (steps list) ≡ true) (distinct_lists n len)
distinct_are n zero = All-cons (λ list. list_all apart (steps list) ≡ true) [] [] refl (All-nil (λ list. list_all apart (steps list) ≡ true))
distinct_are n (suc len) = all_flat (λ list. list_all apart (steps list) ≡ true) (λ list. list_all apart (steps list) ≡ true) (lengthened n) (distinct_lists n len)
    (λ front is.
    let other = λ (event : ℕ). not (is_among front event) in
    All-map (λ list. list_all apart (steps list) ≡ true) (λ event. front ++ event ∷ []) (filter other (range_with_len 0 n))
    (All-weaker (λ event. other event ≡ true) (λ event. list_all apart (steps (front ++ event ∷ [])) ≡ true)
    (λ event apart_from. apart_push front event ∙ and_from (list_all apart (steps front)) (not (is_among front event)) is apart_from)
    (filter other (range_with_len 0 n)) (filter_passes other (range_with_len 0 n))))
    (distinct_are n len)

pub sequences_are : (e : EventsView) → All (λ sequence. is_sequence e sequence ≡ true) (sequences e)
sequences_are e =
    let n = length e.names in
    λ k d within.
    let sequence = get_or (sequences e) k d in
    let is = lists_are n e.len k d within in
    and_from (eqb (length sequence) e.len && list_all (λ event. nat_lt event n) sequence) (list_all apart (steps sequence))
    (and_from (eqb (length sequence) e.len) (list_all (λ event. nat_lt event n) sequence) (eq-eqb (length sequence) e.len is.0)
    (list_all-from_AllPass (λ event. nat_lt event n) sequence (All-weaker (λ event. event < n) (λ event. nat_lt event n ≡ true) (λ event low. lt-ltb event n low) sequence is.1)))
    (distinct_are n e.len k d within)

-- ---- all of them are listed

split_all : {X : Type 0} (P : X → Type 0) (xs ys : List X) → All P (xs ++ ys) → All P xs × All P ys
split_all P [] ys all = (All-nil P, all)
split_all P (x ∷ xs) ys all =
    let rest = split_all P xs ys (All-tail P x (xs ++ ys) all) in
    (All-cons P x xs (All-head P x (xs ++ ys) all) rest.0, rest.1)

of_filtered : {X : Type 0} (P : X → Type 0) (f : ℕ → X) (q : ℕ → Bool) (xs : List ℕ) → All P (map f (filter q xs)) → All (λ x. q x ≡ true → P (f x)) xs
of_filtered P f q [] all = All-nil (λ x. q x ≡ true → P (f x))
of_filtered P f q (x ∷ xs) all = at (q x) refl (of_filtered P f q xs)
  where
    at :
        (keeps : Bool) → q x ≡ keeps → (All P (map f (filter q xs)) → All (λ y. q y ≡ true → P (f y)) xs)
        → All (λ y. q y ≡ true → P (f y)) (x ∷ xs)
    at true is later =
        let whole : All P (f x ∷ map f (filter q xs)) = subst (λ ys. All P (map f ys)) (cond-true (q x) (x ∷ filter q xs) (filter q xs) is) all in
        All-cons (λ y. q y ≡ true → P (f y)) x xs (λ same. All-head P (f x) (map f (filter q xs)) whole) (later (All-tail P (f x) (map f (filter q xs)) whole))
    at false is later =
        let rest : All P (map f (filter q xs)) = subst (λ ys. All P (map f ys)) (cond-false (q x) (x ∷ filter q xs) (filter q xs) is) all in
        All-cons (λ y. q y ≡ true → P (f y)) x xs (λ same. absurd (both_ways (q x) is same)) (later rest)

-- what holds of each list that is lengthened
module _ (P : List ℕ → Type 0) (n : ℕ) where
  abbrev HoldsBehind : List ℕ → Type 0
  HoldsBehind front = (event : ℕ) → event < n → is_among front event ≡ false → P (front ++ event ∷ [])

  behind_one : (front : List ℕ) → All P (lengthened n front) → HoldsBehind front
  behind_one front all event low other =
      let each = of_filtered P (λ x. front ++ x ∷ []) (λ x. not (is_among front x)) (range_with_len 0 n) all in
      let read = get_or-range_with_len 0 n event event low ∙ zero-add event in
      let it = each event event (rw (length-range_with_len 0 n) low) in
      subst (λ x. not (is_among front x) ≡ true → P (front ++ x ∷ [])) read it (not_from_false (is_among front event) other)

  behind_all : (fronts : List (List ℕ)) → All P (flat_map (lengthened n) fronts) → All HoldsBehind fronts
  behind_all [] all = All-nil HoldsBehind
  behind_all (front ∷ fronts) all =
      let parts = split_all P (lengthened n front) (flat_map (lengthened n) fronts) (subst (All P) (flat_map-cons (lengthened n) front fronts) all) in
      All-cons HoldsBehind front fronts (behind_one front parts.0) (behind_all fronts parts.1)

-- a list is its front and its last event
record Ends (list : List ℕ) : Type 0 where
  front : List ℕ
  last : ℕ
  is : list ≡ front ++ last ∷ []

ends : (list : List ℕ) → 0 < length list → Ends list
ends [] some = absurd (omega arith)
ends (x ∷ []) some = record { front = []; last = x; is = refl }
ends (x ∷ y ∷ list) some =
    let rest = ends (y ∷ list) (omega arith) in
    record { front = x ∷ rest.front; last = rest.last; is = ap (λ l. x ∷ l) rest.is }

each_list : (n len : ℕ) (P : List ℕ → Type 0) → All P (distinct_lists n len) → (list : List ℕ)
    → length list ≡ len → All (λ event. event < n) list → list_all apart (steps list) ≡ true → P list
each_list n zero P all [] long below distinct = All-head P [] [] all
each_list n zero P all (x ∷ list) long below distinct = absurd (omega (arith, long))
each_list n (suc len) P all list long below distinct =
    let end = ends list (omega (arith, long)) in
    let front = end.front in
    let last = end.last in
    let parts = split_all (λ event. event < n) front (last ∷ []) (subst (All (λ event. event < n)) end.is below) in
    let apart_from = and_parts (list_all apart (steps front)) (not (is_among front last)) (sym (apart_push front last) ∙ ap (λ l. list_all apart (steps l)) (sym end.is) ∙ distinct) in
    let short : length front ≡ len = omega (arith, long, ap length end.is, length-append front (last ∷ [])) in
    let holds = each_list n len (HoldsBehind P n) (behind_all P n (distinct_lists n len) all) front short parts.0 apart_from.0 in
    subst P (sym end.is) (holds last (All-head (λ event. event < n) last [] parts.1) (not-true (is_among front last) apart_from.1))

-- the parts of a sequence
pub record IsSequence (e : EventsView) (sequence : List ℕ) : Type 0 where
  pub long : length sequence ≡ e.len
  pub below : All (λ event. event < length e.names) sequence
  pub distinct : list_all apart (steps sequence) ≡ true

pub sequence_parts : (e : EventsView) (sequence : List ℕ) → is_sequence e sequence ≡ true → IsSequence e sequence
sequence_parts e sequence is =
    let n = length e.names in
    let both = and_parts (eqb (length sequence) e.len && list_all (λ event. nat_lt event n) sequence) (list_all apart (steps sequence)) is in
    let parts = and_parts (eqb (length sequence) e.len) (list_all (λ event. nat_lt event n) sequence) both.0 in
    record {
      long = eqb-true (length sequence) e.len parts.0;
      below = All-weaker (λ event. nat_lt event n ≡ true) (λ event. event < n) (λ event low. ltb-true event n low) sequence (AllPass-from_list_all (λ event. nat_lt event n) sequence parts.1);
      distinct = both.1;
    }

-- what holds of each listed sequence holds of each sequence
pub each_sequence : (e : EventsView) (P : List ℕ → Type 0) → All P (sequences e) → (sequence : List ℕ) → is_sequence e sequence ≡ true → P sequence
each_sequence e P all sequence is =
    let parts = sequence_parts e sequence is in
    each_list (length e.names) e.len P all sequence parts.long parts.below parts.distinct
