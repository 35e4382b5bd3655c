-- A row by the set of its events, one event after another.
use Rattle.std.proofs.Common.{◌≡◌, ℕ, ◌+◌, ◌-◌, ◌*◌, ◌<◌, ◌≤◌, ◌⊎◌, Bool, true, false, ◌&&◌, ◌||◌, not, List, []}
use Rattle.std.proofs.Common.{◌∷◌, ◌++◌, length, count_by, eqb, get_or, set, replicate, slice_index, Option, Some}
use Rattle.std.proofs.Common.{None, IfSome, IfNone, is_some, All, inl, inr, refl, sym, ap, subst, ◌∙◌, arith}
use Rattle.std.specs.List.{list_all, list_any}
use Rattle.std.proofs.Math.Bool.{and-false, and-true, or-false}
use Rattle.std.proofs.lemmas.Bool.{and_from, and_left, and_parts, and_right, cases_Bool, cases_eq, eq-eqb, eqb-true, ne_eqb, not-false, not-true, or_left, or_right}
use Rattle.std.proofs.lemmas.Grind.{get_or-set_at}
use Rattle.std.proofs.lemmas.List.{get_or-replicate, get_or-set_other, length-replicate, length_push}
use Rattle.std.proofs.lemmas.List.Elements.{All-from_get_or, All-nil, All-push, All-replicate}
use Rattle.std.proofs.lemmas.List.Folds.{Any-from_list_any, list_all_at, list_any-append}
use Rattle.std.proofs.lemmas.List.Sums.{list_all-from_AllPass}
use Rattle.seq_check.proofs.Counting.{among-none, among-same, among-without, one_if}
use Rattle.seq_check.proofs.OnesLemmas.{size_is}
use Rattle.seq_check.specs.EventSets.{AreBack, OpenView, Tells, in_set, in_set_at, is_open, size_of}
use Rattle.seq_check.specs.believed.Orders.{is_among, is_arrow, is_had}
use Rattle.seq_check.specs.declared.event_set.EventSet.{EventSet}
use Rattle.seq_cover.specs.Building.{ArePlaced, ExistBelow, IsBuilt, IsOnce, open_gain}
use Rattle.seq_cover.specs.believed.OrderGrowth.{can_be_placed, choose, gain}
use Rattle.seq_cover.proofs.GainLemmas.{count_append, open_gain_is}
use Rattle.seq_cover.proofs.Leading.{arrows_are}

pub among_more : (row : List ℕ) (x event : ℕ) → is_among (row ++ x ∷ []) event ≡ (is_among row event || eqb x event)
among_more row x event =
    list_any-append (λ other. eqb other event) row (x ∷ []) ∙ ap (λ b. is_among row event || b) (or-false (eqb x event))

-- ---- which events can be placed

module _ (back : List EventSet) (pairs : List (ℕ × ℕ)) (row : List ℕ) (placed : EventSet) (event : ℕ)
    (turned : AreBack back pairs) (exist : ExistBelow 64 pairs) (are : ArePlaced placed row) where
  abbrev is_met : ℕ × ℕ → Bool
  is_met arrow = not (eqb arrow.1 event) || is_among row arrow.0

  met : (from to : ℕ) → from < 64 → is_arrow pairs (from, to) ≡ true → (in_set_at back event from && not (in_set placed from)) ≡ false → is_met (from, to) ≡ true
  met from to low arrow none = elim (cases_Bool (eqb to event)) [
    | inr apart ↦ or_left (not (eqb to event)) (is_among row from) (ap not apart)
    | inl same ↦
        let leads : in_set_at back event from ≡ true = turned from event ∙ ap (λ e. is_arrow pairs (from, e)) (sym (eqb-true to event same)) ∙ arrow in
        let there : not (in_set placed from) ≡ false = sym (ap (λ b. b && not (in_set placed from)) leads) ∙ none in
        or_right (not (eqb to event)) (is_among row from) (sym (are from low) ∙ not-false (in_set placed from) there)
  ]

  -- no event that isn't placed has an arrow to it, or one has
  pub can_be : is_among row event ≡ false → ((other : ℕ) → other < 64 → (in_set_at back event other && not (in_set placed other)) ≡ false) → can_be_placed pairs row event ≡ true
  can_be left none =
      and_from (not (is_among row event)) (list_all is_met pairs) (ap not left)
      (list_all-from_AllPass is_met pairs
      (λ k d within. met (get_or pairs k d).0 (get_or pairs k d).1 (exist k d within).0 (arrows_are pairs k d within) (none (get_or pairs k d).0 (exist k d within).0)))

  pub cannot_be : (other : ℕ) → other < 64 → (in_set_at back event other && not (in_set placed other)) ≡ true → can_be_placed pairs row event ≡ false
  cannot_be other low waits =
      let parts = and_parts (in_set_at back event other) (not (in_set placed other)) waits in
      let arrow : list_any (λ a. eqb a.0 other && eqb a.1 event) pairs ≡ true = sym (turned other event) ∙ parts.0 in
      let found = Any-from_list_any (λ a. eqb a.0 other && eqb a.1 event) pairs arrow in
      let same = and_parts (eqb found.1.0 other) (eqb found.1.1 event) found.4 in
      let absent : is_among row found.1.0 ≡ false = ap (is_among row) (eqb-true found.1.0 other same.0) ∙ sym (are other low) ∙ not-true (in_set placed other) parts.1 in
      let fails : is_met found.1 ≡ false = ap (λ b. not b || is_among row found.1.0) same.1 ∙ absent in
      and_right (not (is_among row event)) (list_all is_met pairs) (list_all_at is_met pairs found.0 found.1 found.2 (ap is_met found.3 ∙ fails))

-- ---- what is counted along a row

-- the events of a row that pass a test
pub size_counts : (both : EventSet) (test : ℕ → Bool) (row : List ℕ) (placed : EventSet)
    → ((event : ℕ) → in_set both event ≡ (test event && in_set placed event)) → ArePlaced placed row → IsOnce row
    → size_of both ≡ count_by test row
size_counts both test row placed is are once = at 64 refl
  where
    at : (all : ℕ) → all ≡ 64 → size_of both ≡ count_by test row
    at all same =
        size_is both all same
        ∙ among-same (in_set both) (λ event. test event && is_among row event) all (λ event low. is event ∙ ap (λ b. test event && b) (are event (omega (arith, low, same))))
        ∙ sym (once all same test)

-- no event
pub nothing_once : IsOnce []
nothing_once = λ all same test. sym (among-same (λ event. test event && false) (λ event. false) all (λ event low. and-false (test event)) ∙ among-none all)

-- one event more
module _ (row : List ℕ) (x : ℕ) (absent : is_among row x ≡ false) (low : x < 64) (once : IsOnce row) where
  abbrev with_it : List ℕ
  with_it = row ++ x ∷ []

  others : (test : ℕ → Bool) (event : ℕ) → (x ≡ event → ⊥) → (test event && is_among with_it event) ≡ (test event && is_among row event)
  others test event apart = ap (λ b. test event && b) (among_more row x event ∙ ap (λ b. is_among row event || b) (ne_eqb x event apart) ∙ or-false (is_among row event))

  not_before : (test : ℕ → Bool) (event : ℕ) → x ≡ event → (test event && is_among row event) ≡ false
  not_before test event same = ap (λ b. test event && b) (ap (is_among row) (sym same) ∙ absent) ∙ and-false (test event)

  pub once_more : IsOnce with_it
  once_more all same test =
      count_append test row (x ∷ []) ∙ ap (λ n. n + (0 + one_if (test x))) (once all same test)
      ∙ elim (cases_Bool (test x)) [
        | inl passes ↦
            let q : ℕ → Bool = λ event. test event && is_among with_it event in
            let here : q x ≡ true = and_from (test x) (is_among with_it x) passes (among_more row x x ∙ or_right (is_among row x) (eqb x x) (eq-eqb x x refl)) in
            let without = among-without q all x (omega (arith, low, same)) here in
            let rest = among-same (λ event. q event && not (eqb x event)) (λ event. test event && is_among row event) all (λ event below. elim (cases_eq x event) [
              | inl it ↦ ap (λ b. q event && not b) (eq-eqb x event it) ∙ and-false (q event) ∙ sym (not_before test event it)
              | inr apart ↦ ap (λ b. q event && not b) (ne_eqb x event apart) ∙ and-true (q event) ∙ others test event apart
            ]) in
            let one : one_if (test x) ≡ 1 = ap one_if passes in
            omega (arith, without, rest, one)
        | inr fails ↦
            let rest = among-same (λ event. test event && is_among with_it event) (λ event. test event && is_among row event) all (λ event below. elim (cases_eq x event) [
              | inl it ↦ and_left (test event) (is_among with_it event) (ap test (sym it) ∙ fails) ∙ sym (not_before test event it)
              | inr apart ↦ others test event apart
            ]) in
            let none : one_if (test x) ≡ 0 = ap one_if fails in
            omega (arith, rest, none)
      ]

-- the set with one event more
pub placed_more : (placed with : EventSet) (row : List ℕ) (x : ℕ) → ArePlaced placed row
    → ((event : ℕ) → in_set with event ≡ (in_set placed event || eqb x event)) → ArePlaced with (row ++ x ∷ [])
placed_more placed with row x are is = λ event low. is event ∙ ap (λ b. b || eqb x event) (are event low) ∙ sym (among_more row x event)

-- ---- a row that is built, event by event

-- no event of what waits isn't placed, or one is
module _ (back : List EventSet) (pairs : List (ℕ × ℕ)) (row : List ℕ) (placed waits : EventSet) (event : ℕ)
    (is : (other : ℕ) → other < 64 → in_set waits other ≡ (in_set_at back event other && not (in_set placed other))) (none : Bool) where
  pub placeable : (found : Option ℕ) → is_some found ≡ not none → IfNone found ((other : ℕ) → other < 64 → in_set waits other ≡ false)
      → IfSome found (λ least. (least < 64) × (in_set waits least ≡ true) × ((other : ℕ) → other < least → in_set waits other ≡ false))
      → AreBack back pairs → ExistBelow 64 pairs → ArePlaced placed row → is_among row event ≡ false → none ≡ can_be_placed pairs row event
  placeable None found_is all some turned exist are left =
      not-false none (sym found_is) ∙ sym (can_be back pairs row placed event turned exist are left (λ other low. sym (is other low) ∙ all other low))
  placeable (Some least) found_is all some turned exist are left =
      not-true none (sym found_is) ∙ sym (cannot_be back pairs row placed event turned exist are least some.0 (sym (is least some.0) ∙ some.1))

-- a gain is raised
module _ (gains : List ℕ) (at by : ℕ) (within : at < length gains) where
  abbrev after : List ℕ
  after = set gains at (get_or gains at 0 + by)

  pub raised_here : (last : ℕ) → last ≡ at → get_or after last 0 ≡ get_or gains last 0 + by
  raised_here last same = get_or-set_at gains at last (get_or gains at 0 + by) 0 same within ∙ ap (λ k. get_or gains k 0 + by) (sym same)

  pub raised_there : (last : ℕ) → (last ≡ at → ⊥) → get_or after last 0 ≡ get_or gains last 0
  raised_there last apart = get_or-set_other gains at last (get_or gains at 0 + by) 0 apart

-- before the first event
pub no_gain : (o : OpenView) (event : ℕ) → (o.len ≡ 2) ⊎ (o.len ≡ 3) → open_gain o [] event ≡ 0
no_gain o event (inl two) = ap (λ k. count_by (λ front. is_open o front event) (choose (k - 1) [])) two
no_gain o event (inr three) = ap (λ k. count_by (λ front. is_open o front event) (choose (k - 1) [])) three

pub nothing_built : (o : OpenView) (n : ℕ) (placed : EventSet) (gains : List ℕ) → (o.len ≡ 2) ⊎ (o.len ≡ 3)
    → ((event : ℕ) → in_set placed event ≡ false) → gains ≡ replicate n 0 → IsBuilt o n 0 [] placed gains
nothing_built o n placed gains of none are = record {
  exist = All-nil (λ event. event < n);
  placed_are = λ event low. none event;
  once = nothing_once;
  short = omega arith;
  long = ap length are ∙ length-replicate n 0;
  gains_are = λ event low. ap (λ l. get_or l event 0) are ∙ get_or-replicate n event 0 0 low ∙ sym (no_gain o event of);
  few = subst (All (λ gain. gain ≤ 64 * 0)) (sym are) (All-replicate (λ gain. gain ≤ 64 * 0) n 0 (omega arith));
}

-- one event more is built
module _ (o : OpenView) (n turn : ℕ) (row : List ℕ) (placed with : EventSet) (gains raised : List ℕ) (event : ℕ) (few : n ≤ 64)
    (built : IsBuilt o n turn row placed gains) (below : event < n) (left : in_set placed event ≡ false) (long : length raised ≡ length gains)
    (value : (some : List ℕ) (last : ℕ) → ArePlaced placed some → IsOnce some → last < length gains
    → slice_index gains last ≡ open_gain o some last → slice_index raised last ≡ open_gain o (some ++ event ∷ []) last)
    (more : (last : ℕ) → last < length gains → slice_index raised last ≤ slice_index gains last + 64)
    (is : (other : ℕ) → in_set with other ≡ (in_set placed other || eqb event other)) where
  pub built_more : IsBuilt o n (turn + 1) (row ++ event ∷ []) with raised
  built_more =
      let low : event < 64 = omega (arith, below, few) in
      let as_long = built.long in
      let were = built.few in record {
        exist = All-push (λ other. other < n) row event built.exist below;
        placed_are = placed_more placed with row event built.placed_are is;
        once = once_more row event (sym (built.placed_are event low) ∙ left) low built.once;
        short = (let short = built.short in omega (arith, length_push row event, short));
        long = long ∙ built.long;
        gains_are = λ last within. value row last built.placed_are built.once (omega (arith, within, as_long)) (built.gains_are last within);
        few = All-from_get_or (λ gain. gain ≤ 64 * (turn + 1)) raised 0 (λ k within.
            let step = more k (omega (arith, within, long)) in
            let before = were k 0 (omega (arith, within, long)) in
            omega (arith, step, before));
      }

-- the gains that are kept are those of the definition
pub gains_told : (o : OpenView) (n len turn : ℕ) (rows : List (List ℕ)) (row : List ℕ) (placed : EventSet) (gains now : List ℕ)
    → IsBuilt o n turn row placed gains → o.len ≡ len → (len ≡ 2) ⊎ (len ≡ 3)
    → Tells o n (λ s. not (is_had rows s)) → now ≡ gains → (event : ℕ) → event < length now → slice_index now event ≡ gain len rows row event
gains_told o n len turn rows row placed gains now built same of tells is event within =
    let long : length now ≡ n = ap length is ∙ built.long in
    let below : event < n = omega (arith, within, long) in
    ap (λ l. get_or l event 0) is ∙ built.gains_are event below ∙ open_gain_is o n rows row event tells built.exist below len same of
