-- The constraints that were looked at decide which values are live, and whether a node fails.
use Rattle.std.proofs.Common.{◌≡◌, ℕ, ◌<◌, ◌≤◌, Bool, true, false, not, ◌&&◌, List, [], length, Option, Some, None, get_or, ◌⊎◌, ◌∙◌, sym, ap, refl, arith, inl, inr}
use Rattle.std.specs.List.{count_by, list_any, range_with_len}
use Rattle.std.proofs.lemmas.Bool.{false≢true, cases_Bool, cases_eq, and_parts, or_cases, or_from, or_parts, or_left, or_right, false_from_ne_true, not-true, not-false, true_from_ne_false}
use Rattle.std.proofs.lemmas.List.{length-replicate, length-set}
use Rattle.value_text.proofs.ListLemmas.{Some-unwrap_or}
use Rattle.cov_model.specs.believed.Sound.{ModelView, IsSound, param_at}
use Rattle.cov_model.specs.believed.Rows.{is_assigned, value_in, with_value}
use Rattle.cov_model.specs.believed.Valid.{param_numbers}
use Rattle.definitions.specs.believed.Demand.{is_among}
use Rattle.definitions.specs.believed.Search.{breaks_a_rule, constrained_params, is_failing, is_stuck}
use Rattle.definitions.proofs.Members.{Has, among_has, any_member, has_range, of_among, of_any}
use Rattle.definitions.proofs.SliceLemmas.{has_params, of_params}
use Rattle.live_sets.specs.Trail.{LiveView, mark_at}
use Rattle.feasibility.specs.Live.{AreRules, EachHasOne, HasShape, HasUnmarked, LookedAt, ShowsFailure, ShowsListed, ShowsLive, Stops, breaks_one, is_live, undecided_of}
use Rattle.feasibility.specs.Tree.{IsListed, ListsValues, no_values, undecided}
use Rattle.feasibility.proofs.Broken.{IsSettled, broken_stays, longer_alone, longer_none, longer_set, longer_with, settled_by_value, settled_by_values, settled_no, settled_with, shorter_free, told_by}
use Rattle.feasibility.proofs.Growing.{Longer}
use Rattle.feasibility.proofs.Naming.{first_rules, undecided_exist, undecided_of_exist}
use Rattle.feasibility.proofs.NarrowedSets.{count_none, count_some}

-- a node with a parameter of which each listed value makes a constraint No
pub stuck_fails : (m : ModelView) (lists : List (List ℕ)) (cells : List (Option ℕ)) (q : ℕ) → q < length m.params → is_assigned cells q ≡ false
    → ((w : ℕ) → Has (get_or lists q []) w → breaks_a_rule m (with_value cells q w) ≡ true) → is_failing m lists cells ≡ true
stuck_fails m lists cells q within free each =
    let live = λ (w : ℕ). not (breaks_a_rule m (with_value cells q w)) in
    let none : list_any live (get_or lists q []) ≡ false =
    false_from_ne_true (list_any live (get_or lists q [])) (λ some.
    let found = of_any live (get_or lists q []) some in false≢true (sym (ap not (each found.0 found.1)) ∙ found.2)) in
    or_right (breaks_a_rule m cells) (list_any (is_stuck m lists cells) (param_numbers m))
    (any_member (is_stuck m lists cells) (param_numbers m) q (has_params m q within)
    (ap (λ (b : Bool). not b && not (list_any live (get_or lists q []))) free ∙ ap not none))

-- on a node that doesn't fail each parameter without a value has a live value
pub free_left : (m : ModelView) (lists : List (List ℕ)) (cells : List (Option ℕ)) (sets : LiveView) → ListsValues m lists → is_failing m lists cells ≡ false
    → ShowsLive m lists cells sets
    → EachHasOne m cells sets.live
free_left m lists cells sets good node shows q within free =
    elim (cases_eq (count_by (λ mark. mark) (get_or sets.live q [])) 0) [
      | inl none ↦
          absurd (false≢true (sym node ∙ stuck_fails m lists cells q within free (λ w listed.
          let inside = good.exist q w (among_has (get_or lists q []) w listed) in
          let dead = sym (shows.marks q w within inside free) ∙ count_none (get_or sets.live q []) w none in
          not-false (breaks_a_rule m (with_value cells q w)) (ap (λ (b : Bool). b && not (breaks_a_rule m (with_value cells q w)))
          (sym (among_has (get_or lists q []) w listed)) ∙ dead))))
      | inr some ↦ omega (arith, some)
    ]

pub fewer_left : (m : ModelView) (before after : List (Option ℕ)) (live : List (List Bool)) → Longer before after → EachHasOne m before live
    → EachHasOne m after live
fewer_left m before after live longer left q within free = left q within (shorter_free before after q longer free)

-- these constraints tell which values are live, of those that are marked, and whether one is No
pub record Decides (m : ModelView) (lists : List (List ℕ)) (cells : List (Option ℕ)) (numbers : List ℕ) (live : List (List Bool)) : Type 0 where
  pub exist : AreRules m numbers
  pub breaks : breaks_a_rule m cells ≡ breaks_one m numbers cells
  pub marks : (q w : ℕ) → q < length m.params → w < length (param_at m.params q).values → is_assigned cells q ≡ false
      → is_live m lists cells q w ≡ (mark_at live q w && not (breaks_one m numbers (with_value cells q w)))

-- so after they were looked at the sets show the live values, and the node doesn't fail
pub decided_live : (m : ModelView) (lists : List (List ℕ)) (cells : List (Option ℕ)) (numbers : List ℕ) (old new : LiveView)
    → Decides m lists cells numbers old.live
    → LookedAt m numbers cells old new → ShowsLive m lists cells new
decided_live m lists cells numbers old new decides looked = record {
  shape = looked.shape;
  marks = λ q w low inside free. looked.marks q w low inside free ∙ sym (decides.marks q w low inside free);
}

pub decided_free : (m : ModelView) (lists : List (List ℕ)) (cells : List (Option ℕ)) (numbers : List ℕ) (old new : LiveView)
    → Decides m lists cells numbers old.live
    → LookedAt m numbers cells old new → is_failing m lists cells ≡ false
decided_free m lists cells numbers old new decides looked =
    or_from (breaks_a_rule m cells) (list_any (is_stuck m lists cells) (param_numbers m)) (decides.breaks ∙ looked.unbroken)
    (false_from_ne_true (list_any (is_stuck m lists cells) (param_numbers m)) (λ some.
    let found = of_any (is_stuck m lists cells) (param_numbers m) some in
    false≢true (sym (not_stuck found.0 (of_params m found.0 found.1)) ∙ found.2)))
  where
    shows : ShowsLive m lists cells new
    shows = decided_live m lists cells numbers old new decides looked

    not_stuck : (q : ℕ) → q < length m.params → is_stuck m lists cells q ≡ false
    not_stuck q low = elim (cases_Bool (is_assigned cells q)) [
      | inl given ↦ ap (λ (b : Bool). not b && not (list_any (λ w. not (breaks_a_rule m (with_value cells q w))) (get_or lists q []))) given
      | inr free ↦
          let live = λ (w : ℕ). not (breaks_a_rule m (with_value cells q w)) in
          let found = count_some (get_or new.live q []) (looked.left q low free) in
          let parts = and_parts (is_among (get_or lists q []) found.0) (live found.0)
          (sym (shows.marks q found.0 low (omega (arith, found.1, shows.shape.each q)) free) ∙ found.2) in
          ap (λ (b : Bool). not b && not (list_any live (get_or lists q []))) free
          ∙ ap not (any_member live (get_or lists q []) found.0 (of_among (get_or lists q []) found.0 parts.0) parts.1)
    ]

-- where looking at them stopped, the sets show why
pub decided_why : (m : ModelView) (lists : List (List ℕ)) (cells : List (Option ℕ)) (numbers : List ℕ) (old new : LiveView)
    → Decides m lists cells numbers old.live → Stops m cells old new → ShowsFailure m lists cells new
decided_why m lists cells numbers old new decides stops = record {
  shape = stops.shape;
  dead = λ q w low inside free listed gone. elim (cases_Bool (mark_at old.live q w)) [
    | inl marked ↦ stops.taken q w low inside free marked gone
    | inr unmarked ↦
        not-false (breaks_a_rule m (with_value cells q w))
        (ap (λ (b : Bool). b && not (breaks_a_rule m (with_value cells q w))) (sym listed) ∙ decides.marks q w low inside free
        ∙ ap (λ (b : Bool). b && not (breaks_one m numbers (with_value cells q w))) unmarked)
  ];
  why = stops.why;
}

-- and a node of which they show it fails
pub shown_fails : (m : ModelView) (lists : List (List ℕ)) (cells : List (Option ℕ)) (sets : LiveView) → ListsValues m lists
    → ShowsFailure m lists cells sets → is_failing m lists cells ≡ true
shown_fails m lists cells sets good shows = by_reason shows.why
  where
    by_reason : (breaks_a_rule m cells ≡ true) ⊎ HasUnmarked m cells sets.live → is_failing m lists cells ≡ true
    by_reason (inl broken) = or_left (breaks_a_rule m cells) (list_any (is_stuck m lists cells) (param_numbers m)) broken
    by_reason (inr none) =
        stuck_fails m lists cells none.param none.exists none.free (λ w listed.
        let among = among_has (get_or lists none.param []) w listed in
        shows.dead none.param w none.exists (good.exist none.param w among) none.free among (count_none (get_or sets.live none.param []) w none.unmarked))

pub decided_stops : (m : ModelView) (lists : List (List ℕ)) (cells : List (Option ℕ)) (numbers : List ℕ) (old new : LiveView) → ListsValues m lists
    → Decides m lists cells numbers old.live → Stops m cells old new → is_failing m lists cells ≡ true
decided_stops m lists cells numbers old new good decides stops =
    shown_fails m lists cells new good (decided_why m lists cells numbers old new decides stops)

-- so what looking at them answers tells whether the node fails
pub decided_answer : (m : ModelView) (lists : List (List ℕ)) (cells : List (Option ℕ)) (numbers : List ℕ) (old new : LiveView) (whole : Bool)
    → ListsValues m lists
    → Decides m lists cells numbers old.live → (whole ≡ true → LookedAt m numbers cells old new) → (whole ≡ false → Stops m cells old new)
    → whole ≡ not (is_failing m lists cells)
decided_answer m lists cells numbers old new true good decides looked stops = sym (ap not (decided_free m lists cells numbers old new decides (looked refl)))
decided_answer m lists cells numbers old new false good decides looked stops =
    sym (ap not (decided_stops m lists cells numbers old new good decides (stops refl)))

-- all constraints decide, from the listed values
pub listed_decide : (m : ModelView) (lists : List (List ℕ)) (cells : List (Option ℕ)) (sets : LiveView) → ShowsListed m lists sets
    → Decides m lists cells (range_with_len 1 (length m.rules)) sets.live
listed_decide m lists cells sets shows = record {
  exist = first_rules m (length m.rules) (omega arith);
  breaks = told cells;
  marks = λ q w low inside free. ap (λ (b : Bool). b && not (breaks_a_rule m (with_value cells q w))) (sym (shows.marks q w low inside))
      ∙ ap (λ (b : Bool). mark_at sets.live q w && not b) (told (with_value cells q w));
}
  where
    listed : (k : ℕ) → 0 < k → k ≤ length m.rules → is_among (range_with_len 1 (length m.rules)) k ≡ true
    listed k some most = among_has (range_with_len 1 (length m.rules)) k (has_range 1 (length m.rules) k (omega (arith, some)) (omega (arith, most)))

    told : (row : List (Option ℕ)) → breaks_a_rule m row ≡ breaks_one m (range_with_len 1 (length m.rules)) row
    told row = told_by m (range_with_len 1 (length m.rules)) row (first_rules m (length m.rules) (omega arith))
        (λ k some most away. absurd (false≢true (sym away ∙ listed k some most)))

-- a parameter without a mark
pub empty_stops : (m : ModelView) (cells : List (Option ℕ)) (sets : LiveView) (q : ℕ) → HasShape m sets.live → q < length m.params
    → is_assigned cells q ≡ false
    → count_by (λ mark. mark) (get_or sets.live q []) ≡ 0 → Stops m cells sets sets
empty_stops m cells sets q shape within free none = record {
  shape = shape;
  taken = λ s w low inside unset was gone. absurd (false≢true (sym gone ∙ was));
  why = inr (record { param = q; exists = within; free = free; unmarked = none });
}

-- constraints by which a longer row is settled decide, from the live values before
pub settled_decide : (m : ModelView) (lists : List (List ℕ)) (before after : List (Option ℕ)) (numbers : List ℕ) (sets : LiveView)
    → length after ≡ length before
    → Longer before after → AreRules m numbers → breaks_a_rule m before ≡ false → ShowsLive m lists before sets → IsSettled m before after numbers
    → Decides m lists after numbers sets.live
settled_decide m lists before after numbers sets long longer exist unbroken shows settled = record {
  exist = exist;
  breaks = told_by m numbers after exist (settled_no m before after numbers settled unbroken);
  marks = λ q w low inside free.
      by_case q w free (breaks_a_rule m (with_value before q w)) refl
      ∙ sym (ap (λ (b : Bool). b && not (breaks_one m numbers (with_value after q w)))
      (shows.marks q w low inside (shorter_free before after q longer free)));
}
  where
    by_case : (q w : ℕ) → is_assigned after q ≡ false → (b : Bool) → breaks_a_rule m (with_value before q w) ≡ b
        → is_live m lists after q w ≡ (is_live m lists before q w && not (breaks_one m numbers (with_value after q w)))
    by_case q w free true broken =
        ap (λ (b : Bool). is_among (get_or lists q []) w && not b) (broken_stays m (with_value before q w) (with_value after q w)
        (longer_with before after q w (sym long) longer) broken)
        ∙ and_false (is_among (get_or lists q []) w) (not (breaks_one m numbers (with_value after q w)))
        ∙ sym (ap (λ (b : Bool). (is_among (get_or lists q []) w && not b) && not (breaks_one m numbers (with_value after q w))) broken)
      where
        and_false : (a b : Bool) → (a && false) ≡ ((a && false) && b)
        and_false true b = refl
        and_false false b = refl
    by_case q w free false whole =
        ap (λ (b : Bool). is_among (get_or lists q []) w && not b)
        (told_by m numbers (with_value after q w) exist (settled_no m (with_value before q w) (with_value after q w) numbers
        (settled_with m before after numbers q w long free settled) whole))
        ∙ and_assoc (is_among (get_or lists q []) w) (not (breaks_one m numbers (with_value after q w)))
        ∙ sym (ap (λ (b : Bool). (is_among (get_or lists q []) w && not b) && not (breaks_one m numbers (with_value after q w))) whole)
      where
        and_assoc : (a b : Bool) → (a && b) ≡ ((a && true) && b)
        and_assoc true b = refl
        and_assoc false b = refl

-- those that one value more leaves undecided
pub value_decides : (m : ModelView) (lists : List (List ℕ)) (cells : List (Option ℕ)) (p v : ℕ) (sets : LiveView) → IsSound m → length cells ≡ length m.params
    → p < length m.params
    → is_assigned cells p ≡ false → is_failing m lists cells ≡ false → ShowsLive m lists cells sets
    → Decides m lists (with_value cells p v) (undecided m p v) sets.live
value_decides m lists cells p v sets sound long within free node shows =
    settled_decide m lists cells (with_value cells p v) (undecided m p v) sets (length-set cells p (Some v)) (longer_set cells p v free)
    (undecided_exist m p v sound)
    (or_parts (breaks_a_rule m cells) (list_any (is_stuck m lists cells) (param_numbers m)) node).0 shows (settled_by_value m cells p v sound long within)

-- those that the values of a row leave undecided
pub values_decide : (m : ModelView) (lists : List (List ℕ)) (cells : List (Option ℕ)) (sets : LiveView) → IsSound m → length cells ≡ length m.params
    → is_failing m lists (no_values m) ≡ false → ShowsLive m lists (no_values m) sets
    → Decides m lists cells (undecided_of m cells (constrained_params m)) sets.live
values_decide m lists cells sets sound long node shows =
    settled_decide m lists (no_values m) cells (undecided_of m cells (constrained_params m)) sets (long ∙ sym (length-replicate (length m.params) None))
    (longer_none (length m.params) cells)
    (undecided_of_exist m cells (constrained_params m) sound)
    (or_parts (breaks_a_rule m (no_values m)) (list_any (is_stuck m lists (no_values m)) (param_numbers m)) node).0 shows
    (settled_by_values m cells sound long)

-- where the node without values fails, each node does
pub fails_stays : (m : ModelView) (lists : List (List ℕ)) (cells : List (Option ℕ)) → length cells ≡ length m.params → IsListed lists cells
    → is_failing m lists (no_values m) ≡ true
    → is_failing m lists cells ≡ true
fails_stays m lists cells long is fails =
    elim (or_cases (breaks_a_rule m (no_values m)) (list_any (is_stuck m lists (no_values m)) (param_numbers m)) fails) [
      | inl broken ↦
          or_left (breaks_a_rule m cells) (list_any (is_stuck m lists cells) (param_numbers m))
          (broken_stays m (no_values m) cells (longer_none (length m.params) cells) broken)
      | inr stuck ↦
          let found = of_any (is_stuck m lists (no_values m)) (param_numbers m) stuck in
          by_value found.0 (of_params m found.0 found.1) (each found.0 found.2)
    ]
  where
    each : (q : ℕ) → is_stuck m lists (no_values m) q ≡ true → (w : ℕ) → Has (get_or lists q []) w → breaks_a_rule m (with_value (no_values m) q w) ≡ true
    each q stuck w listed =
        let live = λ (v : ℕ). not (breaks_a_rule m (with_value (no_values m) q v)) in
        let none = not-true (list_any live (get_or lists q [])) (and_parts (not (is_assigned (no_values m) q)) (not (list_any live (get_or lists q [])))
        stuck).1 in
        true_from_ne_false (breaks_a_rule m (with_value (no_values m) q w))
        (λ whole. false≢true (sym none ∙ any_member live (get_or lists q []) w listed (ap not whole)))

    by_value : (q : ℕ) → q < length m.params → ((w : ℕ) → Has (get_or lists q []) w → breaks_a_rule m (with_value (no_values m) q w) ≡ true)
        → is_failing m lists cells ≡ true
    by_value q low each = elim (cases_Bool (is_assigned cells q)) [
      | inl given ↦
          or_left (breaks_a_rule m cells) (list_any (is_stuck m lists cells) (param_numbers m))
          (broken_stays m (with_value (no_values m) q (value_in cells q)) cells
          (longer_alone (length m.params) cells q (value_in cells q) long (Some-unwrap_or (get_or cells q None) 0 given))
          (each (value_in cells q) (of_among (get_or lists q []) (value_in cells q) (is.listed q given))))
      | inr free ↦
          stuck_fails m lists cells q low free (λ w listed.
          broken_stays m (with_value (no_values m) q w) (with_value cells q w)
          (longer_with (no_values m) cells q w (length-replicate (length m.params) None ∙ sym long) (longer_none (length m.params) cells)) (each w listed))
    ]

-- a value that is listed and has no mark leads to a node that fails
pub dead_fails : (m : ModelView) (lists : List (List ℕ)) (cells : List (Option ℕ)) (p v : ℕ) (sets : LiveView) → ListsValues m lists
    → ShowsLive m lists cells sets → p < length m.params
    → is_assigned cells p ≡ false → is_among (get_or lists p []) v ≡ true → mark_at sets.live p v ≡ false → is_failing m lists (with_value cells p v) ≡ true
dead_fails m lists cells p v sets good shows low free listed dead =
    or_left (breaks_a_rule m (with_value cells p v)) (list_any (is_stuck m lists (with_value cells p v)) (param_numbers m))
    (not-false (breaks_a_rule m (with_value cells p v))
    (ap (λ (b : Bool). b && not (breaks_a_rule m (with_value cells p v))) (sym listed) ∙ sym (shows.marks p v low (good.exist p v listed) free) ∙ dead))
