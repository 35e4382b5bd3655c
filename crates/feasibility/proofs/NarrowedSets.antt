-- Sets of live values of which those of one parameter are narrowed, value by value.
use Rattle.std.proofs.Common.{◌≡◌, ℕ, zero, suc, ◌-◌, ◌<◌, ◌≤◌, Bool, true, false, not, ◌&&◌, ◌||◌, ◌==◌, cond, List}
use Rattle.std.proofs.Common.{[], ◌∷◌, ◌++◌, length, Option, Some, None, All, get_or, set, ◌∙◌, sym, ap, subst, refl, arith, inl, inr}
use Rattle.std.specs.List.{count_by}
use Rattle.std.proofs.Math.Bool.{and-true}
use Rattle.std.proofs.lemmas.Bool.{cases_Bool, cases_eq, false_from_ne_true, false≢true, ne_eqb, not-false}
use Rattle.std.proofs.lemmas.List.{get_or_read, get_or-set_other, get_or-set_same, length-set}
use Rattle.std.proofs.lemmas.List.Folds.{list_any-append}
use Rattle.std.proofs.lemmas.List.FromFn.{get_or-map-range_with_len, length-map-range_with_len}
use Rattle.std.proofs.lemmas.List.Sums.{sum_by-cons}
use Rattle.compiled_rules.specs.Codes.{is_yes}
use Rattle.cov_model.specs.believed.Kleene.{body_truth}
use Rattle.cov_model.specs.believed.Slices.{value_numbers}
use Rattle.std.proofs.lemmas.List.Elements.{All-filter}
use Rattle.cov_model.specs.believed.Views.{BodyView}
use Rattle.cov_model.specs.believed.Sound.{ModelView, param_at}
use Rattle.cov_model.specs.Sound.{rule_at}
use Rattle.cov_model.specs.believed.Rows.{with_value}
use Rattle.definitions.specs.believed.Demand.{is_among}
use Rattle.definitions.proofs.Members.{all_members as members_are, among_has, has_filter, has_range, of_range}
use Rattle.definitions.proofs.PartialRowLemmas.{among_head}
use Rattle.live_sets.specs.Trail.{LiveView, mark_at, with_mark, IsSince}
use Rattle.live_sets.proofs.TrailLemmas.{since_more, since_self, since_taken}
use Rattle.feasibility.specs.Live.{HasShape, Narrowed, NarrowedBy, no_on}
use Rattle.feasibility.specs.Tree.{all_doubtful, doubtful, doubtful_by, no_values}
use Rattle.feasibility.proofs.Broken.{longer_alone}
use Rattle.feasibility.proofs.Growing.{not_no, stays_body, yes_from_yes}

-- no value
pub narrowed_none : (m : ModelView) (k q : ℕ) (cells : List (Option ℕ)) (sets : LiveView) → HasShape m sets.live → NarrowedBy m k q [] cells sets sets
narrowed_none m k q cells sets shape = record {
  marks = λ w. sym (and-true (mark_at sets.live q w));
  others = λ s differs. refl;
  shape = shape;
  since = since_self sets;
}

-- some values and then others
pub narrowed_more : (m : ModelView) (k q : ℕ) (some others : List ℕ) (cells : List (Option ℕ)) (old now new : LiveView)
    → NarrowedBy m k q some cells old now → NarrowedBy m k q others cells now new → NarrowedBy m k q (some ++ others) cells old new
narrowed_more m k q some others cells old now new first second = record {
  marks = λ w.
      let broken = no_on m (with_value cells q w) k in
      second.marks w ∙ ap (λ (b : Bool). b && not (is_among others w && broken)) (first.marks w)
      ∙ both (mark_at old.live q w) (is_among some w) (is_among others w) broken
      ∙ sym (ap (λ (b : Bool). mark_at old.live q w && not (b && broken)) (list_any-append (λ v. v == w) some others));
  others = λ s differs. second.others s differs ∙ first.others s differs;
  shape = second.shape;
  since = since_more old now new first.since second.since;
}
  where
    both : (mark a b broken : Bool) → ((mark && not (a && broken)) && not (b && broken)) ≡ (mark && not ((a || b) && broken))
    both true true true true = refl
    both true true true false = refl
    both true true false true = refl
    both true true false false = refl
    both true false true true = refl
    both true false true false = refl
    both true false false true = refl
    both true false false false = refl
    both false a b broken = refl

-- a value that isn't live, or stays
pub narrowed_keep : (m : ModelView) (k q v : ℕ) (cells : List (Option ℕ)) (sets : LiveView) → HasShape m sets.live
    → (mark_at sets.live q v && no_on m (with_value cells q v) k) ≡ false → NarrowedBy m k q (v ∷ []) cells sets sets
narrowed_keep m k q v cells sets shape kept = record {
  marks = λ w. elim (cases_eq v w) [
    | inl same ↦ subst (λ (u : ℕ). mark_at sets.live q u ≡ (mark_at sets.live q u && not (is_among (v ∷ []) u && no_on m (with_value cells q u) k))) same
        (stays (mark_at sets.live q v) (is_among (v ∷ []) v) (no_on m (with_value cells q v) k) kept)
    | inr differs ↦ sym (ap (λ (b : Bool). mark_at sets.live q w && not ((b || false) && no_on m (with_value cells q w) k)) (ne_eqb v w differs)
        ∙ and-true (mark_at sets.live q w))
  ];
  others = λ s differs. refl;
  shape = shape;
  since = since_self sets;
}
  where
    stays : (mark among broken : Bool) → (mark && broken) ≡ false → mark ≡ (mark && not (among && broken))
    stays true true true h = h
    stays true true false h = refl
    stays true false broken h = refl
    stays false among broken h = refl

shape_mark : (m : ModelView) (live : List (List Bool)) (q w : ℕ) (b : Bool) → q < length m.params → HasShape m live → HasShape m (with_mark live q w b)
shape_mark m live q w b within shape = record {
  as_many = length-set live q (set (get_or live q []) w b) ∙ shape.as_many;
  each = λ s. elim (cases_eq s q) [
    | inl same ↦
        ap (λ (k : ℕ). length (get_or (with_mark live q w b) k [])) same
        ∙ ap (λ (list : List Bool). length list) (get_or-set_same live q (set (get_or live q []) w b) [] (omega (arith, shape.as_many)))
        ∙ length-set (get_or live q []) w b ∙ shape.each q ∙ ap (λ (k : ℕ). length (param_at m.params k).values) (sym same)
    | inr differs ↦ ap (λ (list : List Bool). length list) (get_or-set_other live q s (set (get_or live q []) w b) [] differs) ∙ shape.each s
  ];
}

-- a value that is taken away
pub narrowed_take : (m : ModelView) (k q v : ℕ) (cells : List (Option ℕ)) (old after : LiveView) → q < length m.params
    → v < length (param_at m.params q).values → HasShape m old.live → mark_at old.live q v ≡ true → no_on m (with_value cells q v) k ≡ true
    → after ≡ record { live = with_mark old.live q v false; trail = old.trail ++ record { param = q; value = v } ∷ [] }
    → NarrowedBy m k q (v ∷ []) cells old after
narrowed_take m k q v cells old after within value shape live broken is =
    let parameter : q < length old.live = omega (arith, shape.as_many) in
    let inside : v < length (get_or old.live q []) = omega (arith, shape.each q) in
    let here : get_or after.live q [] ≡ set (get_or old.live q []) v false =
    ap (λ (sets : LiveView). get_or sets.live q []) is ∙ get_or-set_same old.live q (set (get_or old.live q []) v false) [] parameter in
    record {
      marks = λ w. elim (cases_eq v w) [
        | inl same ↦
            subst (λ (u : ℕ). mark_at after.live q u ≡ (mark_at old.live q u && not (is_among (v ∷ []) u && no_on m (with_value cells q u) k))) same
            (ap (λ (list : List Bool). get_or list v false) here ∙ get_or-set_same (get_or old.live q []) v false false inside
            ∙ sym (gone (mark_at old.live q v) (is_among (v ∷ []) v) (no_on m (with_value cells q v) k) (among_head v []) broken))
        | inr differs ↦
            ap (λ (list : List Bool). get_or list w false) here
            ∙ get_or-set_other (get_or old.live q []) v w false false (λ e. differs (sym e))
            ∙ sym (ap (λ (b : Bool). mark_at old.live q w && not ((b || false) && no_on m (with_value cells q w) k)) (ne_eqb v w differs)
            ∙ and-true (mark_at old.live q w))
      ];
      others = λ s differs. ap (λ (sets : LiveView). get_or sets.live s []) is
          ∙ get_or-set_other old.live q s (set (get_or old.live q []) v false) [] differs;
      shape = subst (λ (sets : LiveView). HasShape m sets.live) (sym is) (shape_mark m old.live q v false within shape);
      since = subst (λ (sets : LiveView). IsSince old sets) (sym is) (since_taken old q v parameter inside live);
    }
  where
    gone : (mark among broken : Bool) → among ≡ true → broken ≡ true → (mark && not (among && broken)) ≡ false
    gone true among broken first second = ap (λ (b : Bool). not (b && broken)) first ∙ ap not second
    gone false among broken first second = refl

-- a value that isn't doubtful isn't No
decided_no : (m : ModelView) (k q w : ℕ) (cells : List (Option ℕ)) → length cells ≡ length m.params → q < length m.params
    → w < length (param_at m.params q).values → is_among (doubtful m (rule_at m k).body q) w ≡ false → no_on m (with_value cells q w) k ≡ false
decided_no m k q w cells long within low away =
    let body = (rule_at m k).body in
    let alone : is_yes (body_truth m body (with_value (no_values m) q w)) ≡ true =
    not-false (is_yes (body_truth m body (with_value (no_values m) q w))) (false_from_ne_true _ (λ left.
    false≢true (sym away ∙ among_has (doubtful m body q) w
    (has_filter (λ v. not (is_yes (body_truth m body (with_value (no_values m) q v)))) (value_numbers m q) w
    (has_range 0 (length (param_at m.params q).values) w (omega arith) (omega (arith, low))) left)))) in
    not_no (body_truth m body (with_value cells q w))
    (yes_from_yes _ _ (stays_body m body (with_value (no_values m) q w) (with_value cells q w)
    (longer_alone (length m.params) (with_value cells q w) q w (length-set cells q (Some w) ∙ long)
    (get_or-set_same cells q (Some w) None (omega (arith, within, long))))) alone)

-- so it is enough to look at those that are
pub narrowed_all : (m : ModelView) (k q : ℕ) (done : List ℕ) (cells : List (Option ℕ)) (old new : LiveView) → length cells ≡ length m.params
    → q < length m.params → done ≡ doubtful m (rule_at m k).body q → NarrowedBy m k q done cells old new → Narrowed m k q cells old new
narrowed_all m k q done cells old new long within is by = record {
  below = λ w low. by.marks w ∙ elim (cases_Bool (is_among done w)) [
    | inl among ↦ ap (λ (b : Bool). mark_at old.live q w && not (b && no_on m (with_value cells q w) k)) among
    | inr away ↦
        ap (λ (b : Bool). mark_at old.live q w && not (b && no_on m (with_value cells q w) k)) away
        ∙ sym (ap (λ (b : Bool). mark_at old.live q w && not b)
        (decided_no m k q w cells long within low (sym (ap (λ (list : List ℕ). is_among list w) is) ∙ away)))
  ];
  others = by.others;
  shape = by.shape;
  since = by.since;
}

pub doubtful_exist : (m : ModelView) (body : BodyView) (q i : ℕ) (list : List ℕ) → list ≡ doubtful m body q → i < length list
    → get_or list i 0 < length (param_at m.params q).values
doubtful_exist m body q i list is within =
    subst (All (λ w. w < length (param_at m.params q).values)) (sym is)
    (All-filter (λ w. not (is_yes (body_truth m body (with_value (no_values m) q w)))) (λ w. w < length (param_at m.params q).values) (value_numbers m q)
    (members_are (λ w. w < length (param_at m.params q).values) (value_numbers m q)
    (λ w has. omega (arith, (of_range 0 (length (param_at m.params q).values) w has).1)))) i 0 within

-- the doubtful values of a constraint stand at its place
pub doubts_at : (m : ModelView) (k : ℕ) (all : List (List (List ℕ))) (lists : List (List ℕ)) → all ≡ all_doubtful m → 0 < k → k ≤ length m.rules
    → lists ≡ get_or all (k - 1) lists → lists ≡ doubtful_by m k
doubts_at m k all lists is some most read =
    let listed : k - 1 < length all = omega (
      arith,
      ap (λ (each : List (List (List ℕ))). length each) is,
      length-map-range_with_len (doubtful_by m) 1 (length m.rules),
      some,
      most,
    ) in
    get_or_read all (k - 1) lists listed read [] ∙ ap (λ (each : List (List (List ℕ))). get_or each (k - 1) []) is
    ∙ get_or-map-range_with_len (doubtful_by m) 1 (length m.rules) (k - 1) k [] (omega (arith, some, most)) (omega (arith, some))

-- no mark, and some mark
pub count_none : (marks : List Bool) (w : ℕ) → count_by (λ mark. mark) marks ≡ 0 → get_or marks w false ≡ false
count_none [] w none = refl
count_none (true ∷ marks) w none = absurd (omega (arith, sum_by-cons (λ (mark : Bool). cond mark 1 0) true marks))
count_none (false ∷ marks) zero none = refl
count_none (false ∷ marks) (suc w) none = count_none marks w (omega (arith, sum_by-cons (λ (mark : Bool). cond mark 1 0) false marks))

pub count_some : (marks : List Bool) → 0 < count_by (λ mark. mark) marks → (w : ℕ) × (w < length marks) × (get_or marks w false ≡ true)
count_some [] some = absurd (omega arith)
count_some (true ∷ marks) some = (0, omega arith, refl)
count_some (false ∷ marks) some =
    let found = count_some marks (omega (arith, sum_by-cons (λ (mark : Bool). cond mark 1 0) false marks)) in (suc found.0, omega (arith, found.1), found.2)
