-- A row that is built for arrows without a cycle is an order of all events that keeps the arrows.
use Rattle.std.proofs.Common.{◌≡◌, ℕ, zero, suc, ◌+◌, ◌<◌, ◌≤◌, Bool, true, false, ◌&&◌, ◌||◌, not, cond, List, [], ◌∷◌, ◌++◌, length, eqb}
use Rattle.std.proofs.Common.{nat_lt, filter, fold, Option, Some, None, IfSome, is_some, All, get_or, inl, inr, refl, sym, ap, subst, ◌∙◌, arith}
use Rattle.std.specs.List.{list_all, range_with_len}
use Rattle.std.specs.Option.{unwrap_or}
use Rattle.std.proofs.lemmas.Bool.{false≢true, and_cases, and_from, and_parts, both_ways, cases_Bool, cond_both, cond-false, cond-true, eq-eqb}
use Rattle.std.proofs.lemmas.Bool.{eqb-true, false_from_ne_true, lt-ltb, ltb-true, ltb-false, ne_eqb, not-false, not_from_false, or_cases, or_parts}
use Rattle.std.proofs.lemmas.List.{length_push}
use Rattle.std.proofs.lemmas.List.Elements.{All-filter, All-head, All-nil, All-push, All-tail, filter_passes}
use Rattle.std.proofs.lemmas.List.Folds.{position_or_len_push}
use Rattle.std.proofs.lemmas.List.Sums.{AllPass-from_list_all, length-filter, list_all-from_AllPass, prefix_len-le-length}
use Rattle.value_text.proofs.ListLemmas.{Some-unwrap_or, list_any-position, not_or, below_all}
use Rattle.seq_check.specs.believed.Orders.{has_each, is_among, is_arrow, keeps, place}
use Rattle.seq_cover.specs.believed.OrderGrowth.{better, built_from, can_be_placed, gain, next_placed, with_next}
use Rattle.seq_cover.specs.believed.Ways.{leads}
use Rattle.seq_check.proofs.Counting.{among, among-all, among-fewer, among-same, among-without, none_among, passes_among, some_among}
use Rattle.seq_cover.specs.Building.{ExistBelow}
use Rattle.seq_cover.proofs.BuildLemmas.{among_more}
use Rattle.seq_cover.proofs.FindLaws.{some_fails}
use Rattle.seq_cover.proofs.Leading.{arrows_are, leads-arrow, leads-then}

-- ---- the best event

best_passes : (gains : ℕ → ℕ) (P : ℕ → Type 0) (xs : List ℕ) (start : Option ℕ) → All P xs → IfSome start P → IfSome (fold (better gains) start xs) P
best_passes gains P [] start all so_far = so_far
best_passes gains P (x ∷ xs) None all so_far = best_passes gains P xs (Some x) (All-tail P x xs all) (All-head P x xs all)
best_passes gains P (x ∷ xs) (Some best) all so_far =
    best_passes gains P xs (better gains (Some best) x) (All-tail P x xs all)
    (cond_both (nat_lt (gains best) (gains x)) (Some x) (Some best) (λ o. IfSome o P) (λ more. All-head P x xs all) (λ less. so_far))

best_some : (gains : ℕ → ℕ) (xs : List ℕ) (start : Option ℕ) → is_some start ≡ true → is_some (fold (better gains) start xs) ≡ true
best_some gains [] start some = some
best_some gains (x ∷ xs) None none = absurd (false≢true none)
best_some gains (x ∷ xs) (Some best) some =
    best_some gains xs (better gains (Some best) x) (cond_both (nat_lt (gains best) (gains x)) (Some x) (Some best) (λ o. is_some o ≡ true) (λ more. refl) (λ less. refl))

best_of_some : (gains : ℕ → ℕ) (xs : List ℕ) → 0 < length xs → is_some (fold (better gains) None xs) ≡ true
best_of_some gains [] some = absurd (omega arith)
best_of_some gains (x ∷ xs) some = best_some gains xs (Some x) refl

at_best : (P : ℕ → Type 0) (o : Option ℕ) → IfSome o P → is_some o ≡ true → P (unwrap_or o 0)
at_best P None all none = absurd (false≢true none)
at_best P (Some x) is some = is

-- ---- places in a row with one event more

pub place_below : (row : List ℕ) (event : ℕ) → is_among row event ≡ true → place row event < length row
place_below row event is = ltb-true (place row event) (length row) (sym (list_any-position (λ other. eqb other event) row) ∙ is)

place_kept : (row : List ℕ) (x event : ℕ) → is_among row event ≡ true → place (row ++ x ∷ []) event ≡ place row event
place_kept row x event is =
    let low = place_below row event is in
    position_or_len_push (λ other. eqb other event) row x
    ∙ cond-false (eqb (place row event) (length row)) _ (place row event) (ne_eqb (place row event) (length row) (λ e. omega (arith, e)))

place_last : (row : List ℕ) (x : ℕ) → is_among row x ≡ false → place (row ++ x ∷ []) x ≡ length row
place_last row x is =
    let past = ltb-false (place row x) (length row) (sym (list_any-position (λ other. eqb other x) row) ∙ is) in
    let most = prefix_len-le-length (λ other. not (eqb other x)) row in
    let last : place row x ≡ length row = omega (arith, past, most) in
    let here : length row + cond (eqb x x) 0 1 ≡ length row = ap (λ b. length row + cond b 0 1) (eq-eqb x x refl) ∙ (let same : length row + 0 ≡ length row = omega arith in same) in
    position_or_len_push (λ other. eqb other x) row x
    ∙ cond-true (eqb (place row x) (length row)) _ (place row x) (eq-eqb (place row x) (length row) last) ∙ here

-- ---- arrows among n events, without a cycle

module _ (n : ℕ) (pairs : List (ℕ × ℕ)) (exist : ExistBelow n pairs) (round : (x : ℕ) → x < n → leads pairs x x ≡ false) where
  -- an event that isn't placed and can't be: an arrow leads to it from another that isn't placed
  abbrev IsWaiting : List ℕ → ℕ → ℕ → Type 0
  IsWaiting row event other = (other < n) × (leads pairs other event ≡ true) × (is_among row other ≡ false)

  waits_for : (row : List ℕ) (event : ℕ) → is_among row event ≡ false → can_be_placed pairs row event ≡ false → (other : ℕ) × IsWaiting row event other
  waits_for row event left cannot =
      let P : ℕ × ℕ → Type 0 = λ arrow. (arrow.0 < n) × (is_arrow pairs (arrow.0, arrow.1) ≡ true) in
      let all : All P pairs = λ k d within. ((exist k d within).0, arrows_are pairs k d within) in
      elim (and_cases (not (is_among row event)) (list_all (λ arrow. not (eqb arrow.1 event) || is_among row arrow.0) pairs) cannot) [
        | inl placed ↦ absurd (both_ways (not (is_among row event)) placed (not_from_false (is_among row event) left))
        | inr missing ↦
            let found = some_fails (λ arrow. not (eqb arrow.1 event) || is_among row arrow.0) P pairs all missing in
            let parts = or_parts (not (eqb found.0.1 event)) (is_among row found.0.0) found.2 in
            let same = eqb-true found.0.1 event (not-false (eqb found.0.1 event) parts.0) in
            (found.0.0, (found.1.0, subst (λ to. leads pairs found.0.0 to ≡ true) same (leads-arrow pairs found.0.0 found.0.1 found.1.1), parts.1))
      ]

  -- how many events a way leads from to this one
  abbrev behind : ℕ → ℕ
  behind event = among (λ x. leads pairs x event) n

  fewer_behind : (other event : ℕ) → other < n → leads pairs other event ≡ true → behind other < behind event
  fewer_behind other event low way =
      among-fewer (λ x. leads pairs x other) (λ x. leads pairs x event) n other low (round other low) way
      (λ x less before. leads-then pairs x other event before way)

  abbrev IsPlaceable : List ℕ → ℕ → Type 0
  IsPlaceable row x = (x < n) × (can_be_placed pairs row x ≡ true)

  some_placeable : (row : List ℕ) (k event : ℕ) → behind event ≤ k → event < n → is_among row event ≡ false → (x : ℕ) × IsPlaceable row x
  some_placeable row zero event few low left = elim (cases_Bool (can_be_placed pairs row event)) [
    | inl can ↦ (event, (low, can))
    | inr cannot ↦
        let other = waits_for row event left cannot in
        let fewer = fewer_behind other.0 event other.1.0 other.1.1 in
        absurd (omega (arith, fewer))
  ]
  some_placeable row (suc k) event few low left = elim (cases_Bool (can_be_placed pairs row event)) [
    | inl can ↦ (event, (low, can))
    | inr cannot ↦
        let other = waits_for row event left cannot in
        let fewer = fewer_behind other.0 event other.1.0 other.1.1 in
        some_placeable row k other.0 (omega (arith, fewer)) other.1.0 other.1.2
  ]

  next_is : (len : ℕ) (rows : List (List ℕ)) (row : List ℕ) (x : ℕ) → IsPlaceable row x → (next : ℕ) × (next_placed n len pairs rows row ≡ Some next) × IsPlaceable row next
  next_is len rows row x placeable =
      let can = can_be_placed pairs row in
      let those = filter can (range_with_len 0 n) in
      let some : 0 < length those = omega (arith, length-filter can (range_with_len 0 n), passes_among can n x placeable.0 placeable.1) in
      let given = best_of_some (gain len rows row) those some in
      let low = All-filter can (λ y. y < n) (range_with_len 0 n) (below_all n) in
      let passes = filter_passes can (range_with_len 0 n) in
      let next = next_placed n len pairs rows row in
      let best = best_passes (gain len rows row) (IsPlaceable row) those None (λ k d within. (low k d within, passes k d within)) tt in
      (unwrap_or next 0, Some-unwrap_or next 0 given, at_best (IsPlaceable row) next best given)

  -- ---- a row so far: it keeps each arrow to an event that is placed, and lacks as many events as places

  abbrev pub is_left : List ℕ → ℕ → Bool
  is_left row event = not (is_among row event)

  pub record IsStart (row : List ℕ) : Type 0 where
    pub below : All (λ x. x < n) row
    pub kept : All (λ pair. is_among row pair.1 ≡ true → keeps row pair ≡ true) pairs
    pub lacks : length row + among (is_left row) n ≡ n

  nothing_yet : IsStart []
  nothing_yet = record {
    below = All-nil (λ x. x < n);
    kept = λ k d within is. absurd (false≢true is);
    lacks = let all = among-all n in omega (arith, all);
  }

  kept_with : (row : List ℕ) (x from to : ℕ) → is_among row x ≡ false → (is_among row to ≡ true → keeps row (from, to) ≡ true)
      → (not (eqb to x) || is_among row from) ≡ true → is_among (row ++ x ∷ []) to ≡ true → keeps (row ++ x ∷ []) (from, to) ≡ true
  kept_with row x from to left before arrow is = elim (or_cases (is_among row to) (eqb x to) (sym (among_more row x to) ∙ is)) [
    | inl placed ↦
        let first : is_among row from ≡ true =
        list_any-position (λ other. eqb other from) row
        ∙ lt-ltb (place row from) (length row) (let low = ltb-true (place row from) (place row to) (before placed) in let high = place_below row to placed in omega (arith, low, high)) in
        ap (λ at. nat_lt at (place (row ++ x ∷ []) to)) (place_kept row x from first) ∙ ap (nat_lt (place row from)) (place_kept row x to placed) ∙ before placed
    | inr here ↦
        let same = eqb-true x to here in
        let first : is_among row from ≡ true = elim (or_cases (not (eqb to x)) (is_among row from) arrow) [
          | inl apart ↦ absurd (both_ways (not (eqb to x)) (ap not (eq-eqb to x (sym same))) apart)
          | inr placed ↦ placed
        ] in
        let last : place (row ++ x ∷ []) to ≡ length row = ap (place (row ++ x ∷ [])) (sym same) ∙ place_last row x left in
        ap (λ at. nat_lt at (place (row ++ x ∷ []) to)) (place_kept row x from first) ∙ ap (nat_lt (place row from)) last
        ∙ lt-ltb (place row from) (length row) (place_below row from first)
  ]

  one_more : (row : List ℕ) (x : ℕ) → IsStart row → IsPlaceable row x → IsStart (row ++ x ∷ [])
  one_more row x start placeable =
      let parts = and_parts (not (is_among row x)) (list_all (λ arrow. not (eqb arrow.1 x) || is_among row arrow.0) pairs) placeable.1 in
      let left : is_among row x ≡ false = false_from_ne_true (is_among row x) (λ is. both_ways (not (is_among row x)) (ap not is) parts.0) in
      let arrows = AllPass-from_list_all (λ arrow. not (eqb arrow.1 x) || is_among row arrow.0) pairs parts.1 in
      let less = among-without (is_left row) n x placeable.0 parts.0 in
      let same = among-same (is_left (row ++ x ∷ [])) (λ y. is_left row y && not (eqb x y)) n (λ y low. ap not (among_more row x y) ∙ not_or (is_among row y) (eqb x y)) in
      let lacks = start.lacks in
      record {
        below = All-push (λ y. y < n) row x start.below placeable.0;
        kept = λ k d within. kept_with row x (get_or pairs k d).0 (get_or pairs k d).1 left (start.kept k d within) (arrows k d within);
        lacks = omega (arith, length_push row x, less, same, lacks);
      }

  -- ---- the whole row

  pub record IsWhole (order : List ℕ) : Type 0 where
    pub below : All (λ x. x < n) order
    pub whole : has_each n order ≡ true
    pub kept : list_all (keeps order) pairs ≡ true

  whole_row : (row : List ℕ) → IsStart row → among (is_left row) n ≡ 0 → IsWhole row
  whole_row row start none =
      let lacks = start.lacks in
      let there : (x : ℕ) → x < n → is_among row x ≡ true = λ x low. not-false (is_among row x) (none_among (is_left row) n x none low) in
      record {
        below = start.below;
        whole = and_from (eqb (length row) n) (list_all (is_among row) (range_with_len 0 n))
            (eq-eqb (length row) n (omega (arith, lacks, none)))
            (list_all-from_AllPass (is_among row) (range_with_len 0 n)
            (λ k d within. there (get_or (range_with_len 0 n) k d) (below_all n k d within)));
        kept = list_all-from_AllPass (keeps row) pairs (λ k d within. start.kept k d within (there (get_or pairs k d).1 (exist k d within).1));
      }

  pub built_is : (len : ℕ) (rows : List (List ℕ)) (k : ℕ) (row : List ℕ) → IsStart row → among (is_left row) n ≡ k → IsWhole (built_from n len pairs rows k row)
  built_is len rows zero row start left = whole_row row start left
  built_is len rows (suc k) row start left =
      let event = some_among (is_left row) n (omega (arith, left)) in
      let absent : is_among row event.0 ≡ false = false_from_ne_true (is_among row event.0) (λ is. both_ways (is_left row event.0) (ap not is) event.2) in
      let placeable = some_placeable row (behind event.0) event.0 (omega arith) event.1 absent in
      let next = next_is len rows row placeable.0 placeable.1 in
      let more = one_more row next.0 start next.2 in
      let before = start.lacks in
      let after = more.lacks in
      subst IsWhole (sym (ap (λ o. with_next o row (built_from n len pairs rows k)) next.1))
      (built_is len rows k (row ++ next.0 ∷ []) more (omega (arith, left, before, after, length_push row next.0)))

  -- from no event placed
  pub row_is : (len : ℕ) (rows : List (List ℕ)) → IsWhole (built_from n len pairs rows n [])
  row_is len rows = built_is len rows n [] nothing_yet (among-all n)
