-- What looking at constraints takes away, and when it stops.
use Rattle.std.proofs.Common.{◌≡◌, ◌≢◌, ℕ, ◌<◌, ◌≤◌, Bool, true, false, not, ◌&&◌, ◌||◌, ◌==◌, List, [], ◌∷◌, ◌++◌, length, Option, Some, get_or, ◌∙◌, sym, ap, subst, refl, arith, inl, inr}
use Rattle.std.specs.List.{count_by, range_with_len}
use Rattle.std.proofs.Math.Bool.{and-true, or-false}
use Rattle.std.proofs.lemmas.Bool.{false≢true, cases_Bool, cases_eq, and_left, or_from, false_from_ne_true, ne_eqb}
use Rattle.std.proofs.lemmas.List.Folds.{list_any-append}
use Rattle.cov_model.specs.believed.Sound.{ModelView, param_at}
use Rattle.cov_model.specs.Sound.{rule_at}
use Rattle.cov_model.specs.believed.Kleene.{body_truth}
use Rattle.cov_model.specs.believed.Rows.{is_assigned, with_value}
use Rattle.definitions.specs.believed.Demand.{is_among}
use Rattle.definitions.specs.believed.Search.{body_params, is_no}
use Rattle.definitions.proofs.Members.{among_has, has_filter, has_range}
use Rattle.refutation.proofs.HolderLemmas.{among_last}
use Rattle.compiled_rules.specs.Codes.{is_yes}
use Rattle.live_sets.specs.Trail.{LiveView, mark_at, IsSince}
use Rattle.live_sets.proofs.TrailLemmas.{since_self, since_more}
use Rattle.feasibility.specs.Live.{AreRules, BreaksNoMark, EachHasOne, HasShape, LookedAt, Narrowed, NoValueBreaks, Stops, breaks_one, no_on}
use Rattle.feasibility.specs.Tree.{members}
use Rattle.refutation.proofs.HolderLemmas.{among_last}
use Rattle.feasibility.proofs.Broken.{breaks_by, breaks_of, longer_set}
use Rattle.feasibility.proofs.Growing.{not_no, stays_body, yes_from_yes}
use Rattle.feasibility.proofs.Local.{agree_set, local_body}
use Rattle.value_text.proofs.ListLemmas.{and_not-and_not}

-- no constraint
pub looked_none : (m : ModelView) (cells : List (Option ℕ)) (sets : LiveView) → HasShape m sets.live → EachHasOne m cells sets.live
    → LookedAt m [] cells sets sets
looked_none m cells sets shape left = record {
  unbroken = refl;
  shape = shape;
  marks = λ q w low inside free. sym (and-true (mark_at sets.live q w));
  left = left;
  since = since_self sets;
}

-- some constraints and then others
pub looked_append : (m : ModelView) (some others : List ℕ) (cells : List (Option ℕ)) (old now new : LiveView) → LookedAt m some cells old now
    → LookedAt m others cells now new
    → LookedAt m (some ++ others) cells old new
looked_append m some others cells old now new first second = record {
  unbroken = list_any-append (no_on m cells) some others ∙ or_from (breaks_one m some cells) (breaks_one m others cells) first.unbroken second.unbroken;
  shape = second.shape;
  marks = λ q w low inside free.
      second.marks q w low inside free
      ∙ ap (λ (b : Bool). b && not (breaks_one m others (with_value cells q w))) (first.marks q w low inside free)
      ∙ and_not-and_not (mark_at old.live q w) (breaks_one m some (with_value cells q w)) (breaks_one m others (with_value cells q w))
      ∙ sym (ap (λ (b : Bool). mark_at old.live q w && not b) (list_any-append (no_on m (with_value cells q w)) some others));
  left = second.left;
  since = since_more old now new first.since second.since;
}

-- a constraint that neither is No nor is made so by a value that is marked
pub looked_seen : (m : ModelView) (k : ℕ) (cells : List (Option ℕ)) (sets : LiveView) → HasShape m sets.live → EachHasOne m cells sets.live
    → BreaksNoMark m k cells sets → LookedAt m (k ∷ []) cells sets sets
looked_seen m k cells sets shape left seen = record {
  unbroken = ap (λ (b : Bool). b || false) seen.unbroken;
  shape = shape;
  marks = λ q w low inside free. stays (mark_at sets.live q w) (no_on m (with_value cells q w) k) (seen.kept q w low inside free);
  left = left;
  since = since_self sets;
}
  where
    stays : (a b : Bool) → (a ≡ true → b ≡ false) → a ≡ (a && not (b || false))
    stays true b h = sym (ap (λ (c : Bool). not (c || false)) (h refl))
    stays false b h = refl

-- one that is No with no value
pub looked_unbroken : (m : ModelView) (k : ℕ) (cells : List (Option ℕ)) (sets : LiveView) → HasShape m sets.live → EachHasOne m cells sets.live
    → no_on m cells k ≡ false → NoValueBreaks m k cells → LookedAt m (k ∷ []) cells sets sets
looked_unbroken m k cells sets shape left unbroken none =
    looked_seen m k cells sets shape left (record { unbroken = unbroken; kept = λ q w low inside free marked. none q w free })

-- one that holds
pub holds_seen : (m : ModelView) (k : ℕ) (cells : List (Option ℕ)) (sets : LiveView) → is_yes (body_truth m (rule_at m k).body cells) ≡ true
    → BreaksNoMark m k cells sets
holds_seen m k cells sets holds = record {
  unbroken = not_no (body_truth m (rule_at m k).body cells) holds;
  kept = λ q w low inside free marked.
      not_no (body_truth m (rule_at m k).body (with_value cells q w))
      (yes_from_yes _ _ (stays_body m (rule_at m k).body cells (with_value cells q w) (longer_set cells q w free)) holds);
}

pub looked_holds : (m : ModelView) (k : ℕ) (cells : List (Option ℕ)) (sets : LiveView) → HasShape m sets.live → EachHasOne m cells sets.live
    → is_yes (body_truth m (rule_at m k).body cells) ≡ true → LookedAt m (k ∷ []) cells sets sets
looked_holds m k cells sets shape left holds = looked_seen m k cells sets shape left (holds_seen m k cells sets holds)

-- a constraint of whose parameters some are looked at
pub record AheadTo (m : ModelView) (k : ℕ) (cells : List (Option ℕ)) (done : List ℕ) (old new : LiveView) : Type 0 where
  pub shape : HasShape m new.live
  pub marks : (q w : ℕ) → q < length m.params → w < length (param_at m.params q).values → is_assigned cells q ≡ false
      → mark_at new.live q w ≡ (mark_at old.live q w && not (is_among done q && no_on m (with_value cells q w) k))
  pub left : EachHasOne m cells new.live
  pub since : IsSince old new

among_push : (done : List ℕ) (q s : ℕ) → is_among (done ++ q ∷ []) s ≡ (is_among done s || ((q == s) || false))
among_push done q s = list_any-append (λ k. k == s) done (q ∷ [])

pub among_other : (done : List ℕ) (q s : ℕ) → s ≢ q → is_among (done ++ q ∷ []) s ≡ is_among done s
among_other done q s differs = among_push done q s ∙ ap (λ (b : Bool). is_among done s || (b || false)) (ne_eqb q s (λ same. differs (sym same)))
    ∙ or_false (is_among done s)
  where
    or_false : (b : Bool) → (b || (false || false)) ≡ b
    or_false true = refl
    or_false false = refl

-- one with a value
pub ahead_skip : (m : ModelView) (k : ℕ) (cells : List (Option ℕ)) (done : List ℕ) (q : ℕ) (old new : LiveView) → AheadTo m k cells done old new
    → is_assigned cells q ≡ true
    → AheadTo m k cells (done ++ q ∷ []) old new
ahead_skip m k cells done q old new to given = record {
  shape = to.shape;
  marks = λ s w low inside free.
      to.marks s w low inside free
      ∙ ap (λ (b : Bool). mark_at old.live s w && not (b && no_on m (with_value cells s w) k))
      (sym (among_other done q s (λ same. false≢true (sym free ∙ ap (is_assigned cells) same ∙ given))));
  left = to.left;
  since = to.since;
}

-- one that is narrowed
pub ahead_more : (m : ModelView) (k : ℕ) (cells : List (Option ℕ)) (done : List ℕ) (q : ℕ) (old now new : LiveView) → AheadTo m k cells done old now
    → q < length m.params
    → is_assigned cells q ≡ false → Narrowed m k q cells now new → 0 < count_by (λ mark. mark) (get_or new.live q [])
    → AheadTo m k cells (done ++ q ∷ []) old new
ahead_more m k cells done q old now new to within unset narrowed some = record {
  shape = narrowed.shape;
  marks = λ s w low inside free. elim (cases_eq s q) [
    | inl same ↦
        let here : w < length (param_at m.params q).values = subst (λ (p : ℕ). w < length (param_at m.params p).values) same inside in
        ap (λ (p : ℕ). mark_at new.live p w) same ∙ narrowed.below w here
        ∙ ap (λ (b : Bool). b && not (no_on m (with_value cells q w) k)) (to.marks q w within here unset)
        ∙ again (mark_at old.live q w) (is_among done q) (no_on m (with_value cells q w) k)
        ∙ sym (ap (λ (b : Bool). mark_at old.live q w && not (b && no_on m (with_value cells q w) k)) (among_last done q))
        ∙ ap (λ (p : ℕ). mark_at old.live p w && not (is_among (done ++ q ∷ []) p && no_on m (with_value cells p w) k)) (sym same)
    | inr differs ↦
        ap (λ (list : List Bool). get_or list w false) (narrowed.others s differs) ∙ to.marks s w low inside free
        ∙ ap (λ (b : Bool). mark_at old.live s w && not (b && no_on m (with_value cells s w) k)) (sym (among_other done q s differs))
  ];
  left = λ s low free. elim (cases_eq s q) [
    | inl same ↦ subst (λ (p : ℕ). 0 < count_by (λ mark. mark) (get_or new.live p [])) (sym same) some
    | inr differs ↦ subst (λ (list : List Bool). 0 < count_by (λ mark. mark) list) (sym (narrowed.others s differs)) (to.left s low free)
  ];
  since = since_more old now new to.since narrowed.since;
}
  where
    again : (a b c : Bool) → ((a && not (b && c)) && not c) ≡ (a && not (true && c))
    again true true true = refl
    again true true false = refl
    again true false c = refl
    again false b c = refl

-- a constraint that is No
pub broken_stops : (m : ModelView) (k : ℕ) (cells : List (Option ℕ)) (sets : LiveView) → 0 < k → k ≤ length m.rules → HasShape m sets.live
    → no_on m cells k ≡ true → Stops m cells sets sets
broken_stops m k cells sets least most shape broken = record {
  shape = shape;
  taken = λ q w low inside free was gone. absurd (false≢true (sym gone ∙ was));
  why = inl (breaks_by m cells k least most broken);
}

-- one of which no value is left
pub ahead_stops : (m : ModelView) (k : ℕ) (cells : List (Option ℕ)) (done : List ℕ) (q : ℕ) (old now new : LiveView) → 0 < k → k ≤ length m.rules
    → AheadTo m k cells done old now
    → q < length m.params → is_assigned cells q ≡ false → Narrowed m k q cells now new → count_by (λ mark. mark) (get_or new.live q []) ≡ 0
    → Stops m cells old new
ahead_stops m k cells done q old now new least most to within unset narrowed none = record {
  shape = narrowed.shape;
  taken = λ s w low inside free was gone. breaks_by m (with_value cells s w) k least most (elim (cases_eq s q) [
    | inl same ↦
        ap (λ (p : ℕ). no_on m (with_value cells p w) k) same
        ∙ here w (subst (λ (p : ℕ). w < length (param_at m.params p).values) same inside)
        (ap (λ (p : ℕ). mark_at old.live p w) (sym same) ∙ was) (ap (λ (p : ℕ). mark_at new.live p w) (sym same) ∙ gone)
    | inr differs ↦
        before_no (mark_at old.live s w) (is_among done s) (no_on m (with_value cells s w) k) was
        (sym (ap (λ (list : List Bool). get_or list w false) (narrowed.others s differs) ∙ to.marks s w low inside free) ∙ gone)
  ]);
  why = inr (record { param = q; exists = within; free = unset; unmarked = none });
}
  where
    was_no : (a b c : Bool) → a ≡ true → ((a && not (b && c)) && not c) ≡ false → c ≡ true
    was_no a b true h gone = refl
    was_no true true false h gone = absurd (false≢true (sym gone))
    was_no true false false h gone = absurd (false≢true (sym gone))
    was_no false b false h gone = absurd (false≢true h)

    before_no : (a b c : Bool) → a ≡ true → (a && not (b && c)) ≡ false → c ≡ true
    before_no a b true h gone = refl
    before_no true true false h gone = absurd (false≢true (sym gone))
    before_no true false false h gone = absurd (false≢true (sym gone))
    before_no false b false h gone = absurd (false≢true h)

    here : (w : ℕ) → w < length (param_at m.params q).values → mark_at old.live q w ≡ true → mark_at new.live q w ≡ false
        → no_on m (with_value cells q w) k ≡ true
    here w inside was gone =
        was_no (mark_at old.live q w) (is_among done q) (no_on m (with_value cells q w) k) was
        (ap (λ (b : Bool). b && not (no_on m (with_value cells q w) k)) (sym (to.marks q w within inside unset)) ∙ sym (narrowed.below w inside) ∙ gone)

-- all that it names
pub ahead_all : (m : ModelView) (k : ℕ) (cells : List (Option ℕ)) (done : List ℕ) (old new : LiveView) → no_on m cells k ≡ false
    → done ≡ members (length m.params) (rule_at m k).body → AheadTo m k cells done old new → LookedAt m (k ∷ []) cells old new
ahead_all m k cells done old new unbroken whole to = record {
  unbroken = ap (λ (b : Bool). b || false) unbroken;
  shape = to.shape;
  marks = λ q w low inside free.
      to.marks q w low inside free
      ∙ ap (λ (b : Bool). mark_at old.live q w && not b) (elim (cases_Bool (is_among done q)) [
        | inl among ↦ ap (λ (b : Bool). b && no_on m (with_value cells q w) k) among ∙ sym (or-false (no_on m (with_value cells q w) k))
        | inr away ↦ and_left (is_among done q) (no_on m (with_value cells q w) k) away ∙ sym (ap (λ (b : Bool). b || false) (same q w low away))
      ]);
  left = to.left;
  since = to.since;
}
  where
    same : (q w : ℕ) → q < length m.params → is_among done q ≡ false → no_on m (with_value cells q w) k ≡ false
    same q w low away =
        let unnamed : is_among (body_params (rule_at m k).body) q ≡ false =
        false_from_ne_true (is_among (body_params (rule_at m k).body) q) (λ named.
        false≢true (sym away ∙ ap (λ (list : List ℕ). is_among list q) whole
        ∙ among_has (members (length m.params) (rule_at m k).body) q (has_filter (is_among (body_params (rule_at m k).body))
        (range_with_len 0 (length m.params)) q (has_range 0 (length m.params) q (omega arith) (omega (arith, low))) named))) in
        ap is_no (local_body m (rule_at m k).body (with_value cells q w) cells (agree_set (body_params (rule_at m k).body) cells q (Some w) unnamed)).0
        ∙ unbroken

-- what stops after some constraints were looked at stops from the start
pub stops_before : (m : ModelView) (numbers : List ℕ) (cells : List (Option ℕ)) (old now new : LiveView) → AreRules m numbers
    → LookedAt m numbers cells old now
    → Stops m cells now new → Stops m cells old new
stops_before m numbers cells old now new exist to stops = record {
  shape = stops.shape;
  taken = λ q w low inside free was gone. elim (cases_Bool (mark_at now.live q w)) [
    | inl marked ↦ stops.taken q w low inside free marked gone
    | inr unmarked ↦
        breaks_of m numbers (with_value cells q w) exist
        (was_broken (mark_at old.live q w) (breaks_one m numbers (with_value cells q w)) was (sym (to.marks q w low inside free) ∙ unmarked))
  ];
  why = stops.why;
}
  where
    was_broken : (a b : Bool) → a ≡ true → (a && not b) ≡ false → b ≡ true
    was_broken a true h gone = refl
    was_broken true false h gone = absurd (false≢true (sym gone))
    was_broken false false h gone = absurd (false≢true h)
