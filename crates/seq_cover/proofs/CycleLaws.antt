-- The cycle that is told is a cycle along the arrows.
use Rattle.std.proofs.Common.{◌≡◌, ℕ, zero, suc, ◌-◌, ◌<◌, ◌≤◌, ◌⊎◌, Bool, true, false, ◌&&◌, ◌||◌, List, [], ◌∷◌, length, get_or}
use Rattle.std.proofs.Common.{eqb, nat_lt, find, Option, Some, None, is_some, All, inl, inr, refl, sym, ap, subst, ◌∙◌, arith}
use Rattle.std.specs.List.{list_all, range_with_len}
use Rattle.std.proofs.lemmas.Bool.{false≢true, and_from, and_parts, both_ways, cases_eq, eq-eqb, eqb-true, false_from_ne_true, lt-ltb, or_cases, or_left, or_right}
use Rattle.std.proofs.lemmas.List.Elements.{All-cons, All-nil, All-head, All-tail}
use Rattle.seq_check.proofs.FindLemmas.{first_number}
use Rattle.seq_check.specs.believed.Orders.{is_arrow, is_cycle, neighbours}
use Rattle.seq_cover.specs.Building.{ExistBelow}
use Rattle.seq_cover.specs.believed.Ways.{cycle_by, cycle_from, cycle_of, fewest, is_within, leads, next_event, way_back, with_rest}
use Rattle.seq_check.proofs.Counting.{among, among-fewer, among-le, least, passes_among}
use Rattle.seq_cover.proofs.FindLaws.{found_is, number_found}
use Rattle.seq_cover.proofs.Leading.{arrows_are}
use Rattle.value_text.proofs.ListLemmas.{below_all}

-- arrows among n events, and an event
module _ (n : ℕ) (pairs : List (ℕ × ℕ)) (goal : ℕ) where
  abbrev near : ℕ → ℕ → Bool
  near k event = is_within n pairs goal k event

  abbrev goes : ℕ → ℕ → Bool
  goes k event = is_some (next_event n pairs goal k event)

  -- one step to an event that is near
  steps_on : (k from to : ℕ) → to < n → is_arrow pairs (from, to) ≡ true → near k to ≡ true → goes k from ≡ true
  steps_on k from to low arrow is =
      number_found (λ next. is_arrow pairs (from, next) && near k next) n to low (and_from (is_arrow pairs (from, to)) (near k to) arrow is)

  record Step (k event : ℕ) : Type 0 where
    next : ℕ
    is : next_event n pairs goal k event ≡ Some next
    below : next < n
    arrow : is_arrow pairs (event, next) ≡ true
    leaves : near k next ≡ true

  step : (k event : ℕ) → goes k event ≡ true → Step k event
  step k event some =
      let found = found_is (λ next. is_arrow pairs (event, next) && near k next) (λ x. x < n) (range_with_len 0 n) (below_all n) some in
      let parts = and_parts (is_arrow pairs (event, found.0)) (near k found.0) found.3 in
      record { next = found.0; is = found.1; below = found.2; arrow = parts.0; leaves = parts.1 }

  -- more steps are enough too
  near_more : (k m event : ℕ) → k ≤ m → near k event ≡ true → near m event ≡ true
  near_more k zero event less is = let same : k ≡ 0 = omega arith in subst (λ j. near j event ≡ true) same is
  near_more k (suc m) event less is = elim (cases_eq k (suc m)) [
    | inl same ↦ subst (λ j. near j event ≡ true) same is
    | inr apart ↦ or_left (near m event) (goes m event) (near_more k m event (omega (arith, apart)) is)
  ]

  -- a way from an event to the goal of k steps and one more, where fewer aren't enough
  record IsWay (event k : ℕ) (way : List ℕ) : Type 0 where
    long : length way ≡ suc k
    along : list_all (is_arrow pairs) (neighbours (event ∷ way)) ≡ true
    ends : get_or (event ∷ way) (length way) 0 ≡ goal
    exist : All (λ x. x < n) way
    many : suc k ≤ among (near k) n

  way_is : (k event : ℕ) → goes k event ≡ true → ((j : ℕ) → j < k → goes j event ≡ false) → IsWay event k (way_back n pairs goal (suc k) event)
  way_is zero event some least =
      let s = step zero event some in
      let at_goal : s.next ≡ goal = eqb-true s.next goal s.leaves in
      let many = passes_among (near zero) n s.next s.below s.leaves in
      subst (IsWay event zero) (sym (ap (λ o. with_rest o (way_back n pairs goal zero)) s.is)) (record {
        long = refl;
        along = and_from (is_arrow pairs (event, s.next)) true s.arrow refl;
        ends = at_goal;
        exist = All-cons (λ x. x < n) s.next [] s.below (All-nil (λ x. x < n));
        many = omega arith;
      })
  way_is (suc m) event some least =
      let s = step (suc m) event some in
      let not_yet : near m s.next ≡ false = false_from_ne_true (near m s.next)
      (λ is. both_ways (goes m event) (least m (omega arith)) (steps_on m event s.next s.below s.arrow is)) in
      let goes_on : goes m s.next ≡ true = elim (or_cases (near m s.next) (goes m s.next) s.leaves) [
        | inl is ↦ absurd (both_ways (near m s.next) not_yet is)
        | inr on ↦ on
      ] in
      let fewer : (j : ℕ) → j < m → goes j s.next ≡ false = λ j low. false_from_ne_true (goes j s.next)
      (λ is. both_ways (near m s.next) not_yet (near_more (suc j) m s.next (omega arith) (or_right (near j s.next) (goes j s.next) is))) in
      let rest = way_is m s.next goes_on fewer in
      let more = among-fewer (near m) (near (suc m)) n s.next s.below not_yet s.leaves (λ x low is. or_left (near m x) (goes m x) is) in
      subst (IsWay event (suc m)) (sym (ap (λ o. with_rest o (way_back n pairs goal (suc m))) s.is)) (record {
        long = ap suc rest.long;
        along = and_from (is_arrow pairs (event, s.next)) (list_all (is_arrow pairs) (neighbours (s.next ∷ way_back n pairs goal (suc m) s.next))) s.arrow rest.along;
        ends = rest.ends;
        exist = All-cons (λ x. x < n) s.next (way_back n pairs goal (suc m) s.next) s.below rest.exist;
        many = let before = rest.many in omega (arith, before, more);
      })

  -- a way along arrows reaches the goal in some number of steps
  abbrev Reaches : ℕ → Type 0
  Reaches event = (k : ℕ) × (goes k event ≡ true)

  abbrev IsAt : ℕ → Type 0
  IsAt event = (event ≡ goal) ⊎ Reaches event

  before : (from to : ℕ) → to < n → is_arrow pairs (from, to) ≡ true → IsAt to → Reaches from
  before from to low arrow (inl same) = (0, steps_on 0 from to low arrow (eq-eqb to goal same))
  before from to low arrow (inr reaches) =
      (suc reaches.0, steps_on (suc reaches.0) from to low arrow (or_right (near reaches.0 to) (goes reaches.0 to) reaches.1))

  abbrev IsOne : ℕ × ℕ → Type 0
  IsOne arrow = (arrow.1 < n) × (is_arrow pairs (arrow.0, arrow.1) ≡ true)

  along : (some : List (ℕ × ℕ)) → All IsOne some → (from to : ℕ) → leads some from to ≡ true → IsAt to → Reaches from
  along [] are from to way at = absurd (false≢true way)
  along (arrow ∷ arrows) are from to way at =
      elim (or_cases (leads arrows from to) ((eqb from arrow.0 || leads arrows from arrow.0) && (leads arrows arrow.1 to || eqb arrow.1 to)) way) [
        | inl later ↦ along arrows (All-tail IsOne arrow arrows are) from to later at
        | inr over ↦
            let others = All-tail IsOne arrow arrows are in
            let one = All-head IsOne arrow arrows are in
            let parts = and_parts (eqb from arrow.0 || leads arrows from arrow.0) (leads arrows arrow.1 to || eqb arrow.1 to) over in
            let end : IsAt arrow.1 = elim (or_cases (leads arrows arrow.1 to) (eqb arrow.1 to) parts.1) [
              | inl later ↦ inr (along arrows others arrow.1 to later at)
              | inr same ↦ subst IsAt (sym (eqb-true arrow.1 to same)) at
            ] in
            let start : Reaches arrow.0 = before arrow.0 arrow.1 one.0 one.1 end in
            elim (or_cases (eqb from arrow.0) (leads arrows from arrow.0) parts.0) [
              | inl same ↦ subst Reaches (sym (eqb-true from arrow.0 same)) start
              | inr later ↦ along arrows others from arrow.0 later (inr start)
            ]
      ]

-- a list is a cycle along arrows among n events
pub record IsTold (n : ℕ) (pairs : List (ℕ × ℕ)) (cycle : List ℕ) : Type 0 where
  pub is : is_cycle pairs cycle ≡ true
  pub exist : All (λ x. x < n) cycle

-- a way from an event back to it, and the event before it
way_round : (n : ℕ) (pairs : List (ℕ × ℕ)) (first k : ℕ) (way : List ℕ) → first < n → IsWay n pairs first first k way → IsTold n pairs (first ∷ way)
way_round n pairs first k way low is =
    let back : length (first ∷ way) - 1 ≡ length way = omega arith in
    let ends : first ≡ get_or (first ∷ way) (length (first ∷ way) - 1) 0 = sym (ap (λ i. get_or (first ∷ way) i 0) back ∙ is.ends) in
    let long = is.long in
    record {
      is = and_from (nat_lt 1 (length (first ∷ way)) && eqb first (get_or (first ∷ way) (length (first ∷ way) - 1) 0)) (list_all (is_arrow pairs) (neighbours (first ∷ way)))
          (and_from (nat_lt 1 (length (first ∷ way))) (eqb first (get_or (first ∷ way) (length (first ∷ way) - 1) 0))
          (lt-ltb 1 (length (first ∷ way)) (omega (arith, long))) (eq-eqb first (get_or (first ∷ way) (length (first ∷ way) - 1) 0) ends))
          is.along;
      exist = All-cons (λ x. x < n) first way low is.exist;
    }

cycle_by_is : (n : ℕ) (pairs : List (ℕ × ℕ)) (first : ℕ) → ExistBelow n pairs → first < n
    → leads pairs first first ≡ true → IsTold n pairs (cycle_by n pairs first (fewest n pairs first))
cycle_by_is n pairs first exist low way =
    let ones : All (IsOne n pairs first) pairs = λ k d within. ((exist k d within).1, arrows_are pairs k d within) in
    let reaches = along n pairs first pairs ones first first way (inl refl) in
    let found = least (λ k. goes n pairs first k first) reaches.0 reaches.1 in
    let told = way_is n pairs first found.0 first found.1.0 found.1.1 in
    let few = among-le (near n pairs first found.0) n in
    let many = told.many in
    let fewest_is : fewest n pairs first ≡ Some found.0 = first_number (λ k. goes n pairs first k first) n found.0 (omega (arith, few, many)) found.1.0 found.1.1 in
    subst (λ o. IsTold n pairs (cycle_by n pairs first o)) (sym fewest_is) (way_round n pairs first found.0 (way_back n pairs first (suc found.0) first) low told)

-- the told cycle is one
pub told_is : (n : ℕ) (pairs : List (ℕ × ℕ)) (cycle : List ℕ) → ExistBelow n pairs → cycle_of n pairs ≡ Some cycle → IsTold n pairs cycle
told_is n pairs cycle exist is = at (find (λ event. leads pairs event event) (range_with_len 0 n)) refl is
  where
    at : (first : Option ℕ) → find (λ event. leads pairs event event) (range_with_len 0 n) ≡ first → cycle_from n pairs first ≡ Some cycle → IsTold n pairs cycle
    at None found none = absurd (cc)
    at (Some first) found told =
        let it = found_is (λ event. leads pairs event event) (λ x. x < n) (range_with_len 0 n) (below_all n) (ap is_some found) in
        let same : it.0 ≡ first = cc in
        let low : first < n = subst (λ x. x < n) same it.2 in
        let way : leads pairs first first ≡ true = subst (λ x. leads pairs x x ≡ true) same it.3 in
        subst (IsTold n pairs) (let equal : cycle_by n pairs first (fewest n pairs first) ≡ cycle = cc in equal) (cycle_by_is n pairs first exist low way)
