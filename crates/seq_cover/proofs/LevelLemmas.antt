-- Levels of events by their distance to a goal, and the way back along them.
use Rattle.std.proofs.Common.{◌≡◌, ℕ, zero, suc, ◌+◌, ◌-◌, ◌<◌, ◌≤◌, true, false, ◌&&◌, ◌||◌, List, [], ◌∷◌, ◌++◌, length, eqb}
use Rattle.std.proofs.Common.{nat_lt, Option, Some, None, is_some, inl, inr, refl, sym, ap, subst, ◌∙◌, arith, add-one, append_assoc}
use Rattle.std.proofs.Math.Bool.{and-false}
use Rattle.std.proofs.lemmas.Bool.{cases_eq, eq-eqb, ne_eqb, lt-ltb}
use Rattle.std.proofs.lemmas.List.{append-nil, get_or_append_left, get_or_push, length_push}
use Rattle.seq_check.proofs.FindLemmas.{first_number, no_number}
use Rattle.seq_check.specs.EventSets.{in_set, no_events}
use Rattle.seq_check.specs.declared.event_set.EventSet.{EventSet}
use Rattle.seq_cover.specs.believed.Ways.{fewest, is_within, next_event, next_near, way_back, with_rest}
use Rattle.seq_cover.specs.Sets.{AreLevels, Holds}

-- the sets so far, and the next
pub record Climbs (n : ℕ) (pairs : List (ℕ × ℕ)) (goal : ℕ) (near : EventSet) (levels : List EventSet) (turn : ℕ) : Type 0 where
  pub near_is : Holds near n (is_within n pairs goal turn)
  pub levels_are : AreLevels levels n pairs goal
  pub unmet : (k : ℕ) → k < turn → is_some (next_event n pairs goal k goal) ≡ false

pub climbs_from : (n : ℕ) (pairs : List (ℕ × ℕ)) (goal : ℕ) (near : EventSet) → goal < n → ((b : ℕ) → in_set near b ≡ eqb goal b) → Climbs n pairs goal near [] 0
climbs_from n pairs goal near low is = record {
  near_is = λ b below. is b ∙ elim (cases_eq b goal) [
    | inl same ↦ eq-eqb goal b (sym same) ∙ sym (ap (λ t. t && eqb b goal) (lt-ltb b n (subst (λ k. k < n) (sym same) low)) ∙ eq-eqb b goal same)
    | inr apart ↦ ne_eqb goal b (λ e. apart (sym e)) ∙ sym (ap (λ t. nat_lt b n && t) (ne_eqb b goal apart) ∙ and-false (nat_lt b n))
  ];
  levels_are = λ k event low below. absurd (omega arith);
  unmet = λ k low. absurd (omega arith);
}

module _ (n : ℕ) (pairs : List (ℕ × ℕ)) (goal : ℕ) (near : EventSet) (levels : List EventSet) (turn : ℕ) (long : length levels ≡ turn) (here : Climbs n pairs goal near levels turn) where
  pub one_level_more : AreLevels (levels ++ near ∷ []) n pairs goal
  one_level_more = λ k event low below. elim (cases_eq k turn) [
    | inl same ↦
        ap (λ s. in_set s event) (get_or_push levels near no_events k (long ∙ sym same)) ∙ here.near_is event below
        ∙ ap (λ m. nat_lt event n && is_within n pairs goal m event) (sym same)
    | inr apart ↦
        let within : k < length levels = omega (arith, apart, length_push levels near) in
        ap (λ s. in_set s event) (get_or_append_left levels (near ∷ []) no_events k within) ∙ here.levels_are k event within below
  ]

  pub climbs_on : (wider : EventSet) (next : Option ℕ) → next ≡ next_event n pairs goal turn goal → is_some next ≡ false
      → Holds wider n (λ event. is_within n pairs goal turn event || is_some (next_near n pairs (is_within n pairs goal turn) event))
      → Climbs n pairs goal wider (levels ++ near ∷ []) (turn + 1)
  climbs_on wider next is none holds = record {
    near_is = λ event below. holds event below ∙ ap (λ m. nat_lt event n && is_within n pairs goal m event) (sym (add-one turn));
    levels_are = one_level_more;
    unmet = λ k low. elim (cases_eq k turn) [
      | inl same ↦ ap (λ m. is_some (next_event n pairs goal m goal)) same ∙ ap is_some (sym is) ∙ none
      | inr apart ↦ here.unmet k (omega (arith, apart))
    ];
  }

  pub fewest_here : turn < n → (next : Option ℕ) → next ≡ next_event n pairs goal turn goal → is_some next ≡ true → fewest n pairs goal ≡ Some turn
  fewest_here low next is some = first_number (λ k. is_some (next_event n pairs goal k goal)) n turn low (ap is_some (sym is) ∙ some) here.unmet

  pub fewest_nowhere : n ≤ turn → fewest n pairs goal ≡ None
  fewest_nowhere past = no_number (λ k. is_some (next_event n pairs goal k goal)) n (λ k low. here.unmet k (omega arith))

-- one step of the way back
pub back_step : (n : ℕ) (pairs : List (ℕ × ℕ)) (goal at event : ℕ) → 0 < at
    → way_back n pairs goal at event ≡ with_rest (next_event n pairs goal (at - 1) event) (way_back n pairs goal (at - 1))
back_step n pairs goal zero event some = absurd (omega arith)
back_step n pairs goal (suc at) event some = let same : suc at - 1 ≡ at = omega arith in rw same refl

pub back_ends : (n : ℕ) (pairs : List (ℕ × ℕ)) (goal at event : ℕ) (cycle whole : List ℕ) → 0 < at
    → whole ≡ cycle ++ way_back n pairs goal at event → None ≡ next_event n pairs goal (at - 1) event → cycle ≡ whole
back_ends n pairs goal at event cycle whole some here none =
    sym (here ∙ ap (λ l. cycle ++ l) (back_step n pairs goal at event some) ∙ ap (λ o. cycle ++ with_rest o (way_back n pairs goal (at - 1))) (sym none) ∙ append-nil cycle)

pub back_on : (n : ℕ) (pairs : List (ℕ × ℕ)) (goal at event next : ℕ) (cycle whole : List ℕ) → 0 < at
    → whole ≡ cycle ++ way_back n pairs goal at event → Some next ≡ next_event n pairs goal (at - 1) event
    → whole ≡ (cycle ++ next ∷ []) ++ way_back n pairs goal (at - 1) next
back_on n pairs goal at event next cycle whole some here is =
    here ∙ ap (λ l. cycle ++ l) (back_step n pairs goal at event some) ∙ ap (λ o. cycle ++ with_rest o (way_back n pairs goal (at - 1))) (sym is)
    ∙ sym (append_assoc cycle (next ∷ []) (way_back n pairs goal (at - 1) next))
