-- Steps of sequences, neighbours in lists, and orders by the places of their events.
use Rattle.std.proofs.Common.{◌≡◌, ℕ, zero, suc, ◌+◌, ◌-◌, ◌<◌, ◌≤◌, Bool, true, false, not, ◌&&◌, ◌||◌, cond, eqb, List}
use Rattle.std.proofs.Common.{[], ◌∷◌, ◌++◌, length, map, take, drop, get_or, slice_index, nat_lt, All, refl, sym, ap, ◌∙◌}
use Rattle.std.proofs.Common.{arith, zero-add, add-one, drop-cons, length-drop, Option, Some, None, is_some, unwrap_or}
use Rattle.std.specs.List.{list_all, list_any, range_with_len}
use Rattle.std.proofs.lemmas.Bool.{eq-eqb, ne_eqb}
use Rattle.std.proofs.lemmas.List.Elements.{All-head, All-tail, All-push}
use Rattle.std.proofs.lemmas.List.Folds.{list_all-append, list_all-map, list_all_at, list_any-append}
use Rattle.std.proofs.lemmas.List.FromFn.{get_or-map-range_with_len}
use Rattle.value_text.proofs.ListLemmas.{list_any-map, list_any-position}
use Rattle.seq_check.specs.believed.Events.{EventsView, AreEvents}
use Rattle.std.proofs.lemmas.List.{length-map, map-append, take_more, take_rest}
use Rattle.std.proofs.lemmas.List.Quantifiers.{position-Some}
use Rattle.std.specs.List.{slice_split}
use Rattle.std.specs.Str.{bytes_eq}
use Rattle.seq_check.specs.believed.EventFile.{number_of}
use Rattle.seq_check.specs.EventSets.{is_lower, places}
use Rattle.seq_check.specs.believed.OrderReport.{Row, Wrong, has_marks, is_tab, never_in, never_of, numbers_of, row_in, row_of}
use Rattle.seq_check.specs.believed.Orders.{arrows, is_among, is_arrow, is_cycle, is_permitted, is_sequence, keeps, neighbours, place, steps}

abbrev pub apart : ℕ × ℕ → Bool
apart step = not (eqb step.0 step.1)

-- no event stands twice
pub distinct_step : (xs : List ℕ) → 0 < length xs → list_all apart (steps xs) ≡ (list_all (λ other. not (eqb (get_or xs 0 0) other)) (drop 1 xs) && list_all apart (steps (drop 1 xs)))
distinct_step [] some = absurd (omega arith)
distinct_step (x ∷ rest) some =
    list_all-append apart (map (λ later. (x, later)) rest) (steps rest)
    ∙ ap (λ t. t && list_all apart (steps rest)) (list_all-map apart (λ later. (x, later)) rest)

-- a step leads from an event
any_with : (a : Bool) (p : ℕ → Bool) (xs : List ℕ) → list_any (λ x. a && p x) xs ≡ (a && list_any p xs)
any_with true p [] = refl
any_with true p (x ∷ xs) = ap (λ t. p x || t) (any_with true p xs)
any_with false p [] = refl
any_with false p (x ∷ xs) = any_with false p xs

pub arrow_step : (xs : List ℕ) (a b : ℕ) → 0 < length xs
    → is_arrow (steps xs) (a, b) ≡ ((eqb (get_or xs 0 0) a && list_any (λ other. eqb other b) (drop 1 xs)) || is_arrow (steps (drop 1 xs)) (a, b))
arrow_step [] a b some = absurd (omega arith)
arrow_step (x ∷ rest) a b some =
    list_any-append (λ arrow. eqb arrow.0 a && eqb arrow.1 b) (map (λ later. (x, later)) rest) (steps rest)
    ∙ ap (λ t. t || is_arrow (steps rest) (a, b)) (list_any-map (λ arrow. eqb arrow.0 a && eqb arrow.1 b) (λ later. (x, later)) rest ∙ any_with (eqb x a) (λ other. eqb other b) rest)

pub arrow_either : (pairs others : List (ℕ × ℕ)) (a b : ℕ) → is_arrow (pairs ++ others) (a, b) ≡ (is_arrow pairs (a, b) || is_arrow others (a, b))
arrow_either pairs others a b = list_any-append (λ arrow. eqb arrow.0 a && eqb arrow.1 b) pairs others

next_at : (xs : List ℕ) (i : ℕ) → i < length xs → drop i xs ≡ get_or xs i 0 ∷ drop (i + 1) xs
next_at xs i within = drop-cons xs i 0 within ∙ ap (λ n. get_or xs i 0 ∷ drop n xs) (sym (add-one i))

-- a pair of neighbours
pub neighbours_step : (p : ℕ × ℕ → Bool) (xs : List ℕ) (i : ℕ) → i + 1 < length xs
    → list_all p (neighbours (drop i xs)) ≡ (p (get_or xs i 0, get_or xs (i + 1) 0) && list_all p (neighbours (drop (i + 1) xs)))
neighbours_step p xs i within =
    let here : drop i xs ≡ get_or xs i 0 ∷ drop (i + 1) xs = next_at xs i (omega arith) in
    let next : drop (i + 1) xs ≡ get_or xs (i + 1) 0 ∷ drop (i + 1 + 1) xs = next_at xs (i + 1) (omega arith) in
    ap (λ l. list_all p (neighbours l)) (here ∙ ap (λ l. get_or xs i 0 ∷ l) next)
    ∙ ap (λ l. p (get_or xs i 0, get_or xs (i + 1) 0) && list_all p (neighbours l)) (sym next)

pub neighbours_end : (p : ℕ × ℕ → Bool) (xs : List ℕ) (i : ℕ) → 0 < length xs → length xs - 1 ≤ i → list_all p (neighbours (drop i xs)) ≡ true
neighbours_end p xs i some past = ended p (drop i xs) (omega (arith, length-drop i xs))
  where
    ended : (p : ℕ × ℕ → Bool) (ys : List ℕ) → length ys ≤ 1 → list_all p (neighbours ys) ≡ true
    ended p [] short = refl
    ended p (y ∷ []) short = refl
    ended p (y ∷ z ∷ ys) short = absurd (omega arith)

-- tests that agree on each item
all_same : {X : Type 0} (p q : X → Bool) (xs : List X) → All (λ x. p x ≡ q x) xs → list_all p xs ≡ list_all q xs
all_same p q [] same = refl
all_same p q (x ∷ xs) same =
    ap (λ t. t && list_all p xs) (All-head (λ y. p y ≡ q y) x xs same) ∙ ap (λ t. q x && t) (all_same p q xs (All-tail (λ y. p y ≡ q y) x xs same))

-- the places of the events of an order
pub placed : (n : ℕ) (order : List ℕ) (event : ℕ) → event < n → slice_index (places n order) event ≡ place order event
placed n order event within = get_or-map-range_with_len (place order) 0 n event event 0 within (zero-add event)

pub all_placed : (n : ℕ) (order : List ℕ) → length order ≡ n → list_all (λ at. nat_lt at n) (places n order) ≡ list_all (is_among order) (range_with_len 0 n)
all_placed n order long =
    list_all-map (λ at. nat_lt at n) (place order) (range_with_len 0 n)
    ∙ all_same (λ event. nat_lt (place order event) n) (is_among order) (range_with_len 0 n)
    (λ k d within. ap (nat_lt (place order (get_or (range_with_len 0 n) k d))) (sym long) ∙ sym (list_any-position (λ other. eqb other (get_or (range_with_len 0 n) k d)) order))

pub all_kept : (n : ℕ) (order : List ℕ) (pairs : List (ℕ × ℕ)) → All (λ pair. (pair.0 < n) × (pair.1 < n)) pairs
    → list_all (is_lower (places n order)) pairs ≡ list_all (keeps order) pairs
all_kept n order pairs exist =
    all_same (is_lower (places n order)) (keeps order) pairs
    (λ k d within.
    let fits = exist k d within in
    ap (λ low. nat_lt low (slice_index (places n order) (get_or pairs k d).1)) (placed n order (get_or pairs k d).0 fits.0)
    ∙ ap (λ high. nat_lt (place order (get_or pairs k d).0) high) (placed n order (get_or pairs k d).1 fits.1))

-- whether an order is permitted, by its places
pub permitted_by : (e : EventsView) (order : List ℕ) → AreEvents e → length order ≡ length e.names
    → is_permitted e order ≡ (list_all (λ at. nat_lt at (length e.names)) (places (length e.names) order) && list_all (is_lower (places (length e.names) order)) e.precedences)
permitted_by e order kept long =
    let n = length e.names in
    ap (λ t. (t && list_all (is_among order) (range_with_len 0 n)) && list_all (keeps order) e.precedences) (eq-eqb (length order) n long)
    ∙ ap (λ t. t && list_all (keeps order) e.precedences) (sym (all_placed n order long))
    ∙ ap (λ t. list_all (λ at. nat_lt at n) (places n order) && t) (sym (all_kept n order e.precedences kept.exist))

-- what the tests of the places gave
pub below_is : {most n : ℕ} {read numbers : List ℕ} {t b : Bool} → most ≡ n → read ≡ numbers → t ≡ b
    → t ≡ list_all (λ number. nat_lt number most) read → list_all (λ number. nat_lt number n) numbers ≡ b
below_is {n = n} {read = read} is same gives told =
    sym (told ∙ ap (λ k. list_all (λ number. nat_lt number k) read) is ∙ ap (list_all (λ number. nat_lt number n)) same) ∙ gives

pub lower_is : {read numbers : List ℕ} {listed pairs : List (ℕ × ℕ)} {t b : Bool} → read ≡ numbers → listed ≡ pairs → t ≡ b
    → t ≡ list_all (is_lower read) listed → list_all (is_lower numbers) pairs ≡ b
lower_is {numbers = numbers} {listed = listed} same are gives told =
    sym (told ∙ ap (λ l. list_all (is_lower l) listed) same ∙ ap (list_all (is_lower numbers)) are) ∙ gives

pub not_permitted : (e : EventsView) (order : List ℕ) → (length order ≡ length e.names → ⊥) → is_permitted e order ≡ false
not_permitted e order other = ap (λ t. (t && list_all (is_among order) (range_with_len 0 (length e.names))) && list_all (keeps order) e.precedences) (ne_eqb (length order) (length e.names) other)

-- the numbers of events with names, one text after another
module _ {T : Type 0} (text : T → List ℕ) (names : List (List ℕ)) (texts : List T) where
  pub none_known : (i : ℕ) (d : T) → i < length texts → number_of names (text (get_or texts i d)) ≡ None → None ≡ numbers_of names (map text texts)
  none_known i d within none =
      let fails = list_all-map (λ t. is_some (number_of names t)) text texts ∙ list_all_at (λ t. is_some (number_of names (text t))) texts i d within (ap is_some none) in
      sym (ap (λ all. cond all (Some (map (λ t. unwrap_or (number_of names t) 0) (map text texts))) None) fails)

  more_texts : (i : ℕ) (d : T) → i < length texts → map text (take (i + 1) texts) ≡ map text (take i texts) ++ text (get_or texts i d) ∷ []
  more_texts i d within = ap (map text) (take_more texts i d within) ∙ map-append text (take i texts) (get_or texts i d ∷ [])

  pub one_known : (i : ℕ) (d : T) (numbers : List ℕ) (number : ℕ) → i < length texts
      → list_all (λ t. is_some (number_of names t)) (map text (take i texts)) ≡ true
      → numbers ≡ map (λ t. unwrap_or (number_of names t) 0) (map text (take i texts)) → All (λ event. event < length names) numbers
      → number_of names (text (get_or texts i d)) ≡ Some number
      → (list_all (λ t. is_some (number_of names t)) (map text (take (i + 1) texts)) ≡ true)
      × (numbers ++ number ∷ [] ≡ map (λ t. unwrap_or (number_of names t) 0) (map text (take (i + 1) texts))) × All (λ event. event < length names) (numbers ++ number ∷ [])
  one_known i d numbers number within known are below some = (
    ap (list_all (λ t. is_some (number_of names t))) (more_texts i d within)
        ∙ list_all-append (λ t. is_some (number_of names t)) (map text (take i texts)) (text (get_or texts i d) ∷ [])
        ∙ ap (λ t. t && (is_some (number_of names (text (get_or texts i d))) && true)) known ∙ ap (λ o. is_some o && true) some,
    ap (λ l. l ++ number ∷ []) are
        ∙ ap (λ o. map (λ t. unwrap_or (number_of names t) 0) (map text (take i texts)) ++ unwrap_or o 0 ∷ []) (sym some)
        ∙ sym (map-append (λ t. unwrap_or (number_of names t) 0) (map text (take i texts)) (text (get_or texts i d) ∷ []))
        ∙ ap (map (λ t. unwrap_or (number_of names t) 0)) (sym (more_texts i d within)),
    All-push (λ event. event < length names) numbers number below (position-Some (bytes_eq (text (get_or texts i d))) names number [] some).0,
  )

-- what the numbers that a line names make of it
pub row_when : (e : EventsView) (line order : List ℕ) → Some order ≡ numbers_of e.names (slice_split is_tab line) → row_in e line ≡ cond (is_permitted e order) (Row order) Wrong
row_when e line order is = ap (row_of e) (sym is)

pub never_when : (e : EventsView) (parts : List (List ℕ)) (sequence cycle : Option (List ℕ)) → has_marks e.len parts ≡ true
    → sequence ≡ numbers_of e.names (take e.len (drop 1 parts)) → cycle ≡ numbers_of e.names (drop (e.len + 2) parts) → never_in e parts ≡ never_of e sequence cycle
never_when e parts sequence cycle marks first second =
    ap (λ t. cond t (never_of e (numbers_of e.names (take e.len (drop 1 parts))) (numbers_of e.names (drop (e.len + 2) parts))) Wrong) marks
    ∙ ap (λ s. never_of e s (numbers_of e.names (drop (e.len + 2) parts))) (sym first) ∙ ap (never_of e sequence) (sym second)

-- what the test of the sequence and the cycle gave
pub good_is : (e : EventsView) {read sequence listed cycle : List ℕ} {t b : Bool} → read ≡ sequence → listed ≡ cycle → t ≡ b
    → t ≡ (is_sequence e read && is_cycle (arrows e read) listed) → (is_sequence e sequence && is_cycle (arrows e sequence) cycle) ≡ b
good_is e {sequence = sequence} {listed = listed} same are gives told =
    sym (told ∙ ap (λ s. is_sequence e s && is_cycle (arrows e s) listed) same ∙ ap (λ l. is_sequence e sequence && is_cycle (arrows e sequence) l) are) ∙ gives

pub never_without : (e : EventsView) (sequence : Option (List ℕ)) → never_of e sequence None ≡ Wrong
never_without e None = refl
never_without e (Some sequence) = refl

pub drop_map : {X Y : Type 0} (f : X → Y) (n : ℕ) (xs : List X) → map f (drop n xs) ≡ drop n (map f xs)
drop_map f zero xs = refl
drop_map f (suc n) [] = refl
drop_map f (suc n) (x ∷ xs) = drop_map f n xs

-- what is left of parts behind a place
pub rest_of : {X Y : Type 0} (f : X → Y) (xs : List X) (n : ℕ) → take (length xs - n) (drop n (map f xs)) ≡ drop n (map f xs)
rest_of f xs n = ap (λ k. take (k - n) (drop n (map f xs))) (sym (length-map xs f)) ∙ take_rest (map f xs) n
