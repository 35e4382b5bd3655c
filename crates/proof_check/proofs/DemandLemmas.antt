-- Demanded tuples: each has one place, and gives values to the members of its set alone.
use Rattle.std.proofs.Common.{◌≡◌, ℕ, suc, ◌+◌, ◌<◌, ◌≤◌, List, [], ◌∷◌, map, length, take, Option, Some, inl, inr, ◌∙◌, refl, sym, ap, subst, arith}
use Rattle.std.specs.Prelude.{◌≢◌, slice_get, sum}
use Rattle.std.specs.List.{count_by}
use Rattle.std.specs.List.Sorted.{IsStrictlySortedBy}
use Rattle.std.proofs.lemmas.List.{length-map}
use Rattle.std.proofs.lemmas.Option.{same_Some, slice_get-get_or, slice_get_within}
use Rattle.cov_model.specs.believed.Meaning.{value_at}
use Rattle.cov_model.specs.believed.Sound.{ModelView, param_at}
use Rattle.cov_model.specs.Tuples.{IsRising}
use Rattle.cov_model.specs.believed.Tuples.{cells_of}
use Rattle.definitions.specs.believed.Demand.{choices, rising, demanded_sets, demanded_tuples, tuples_of}
use Rattle.definitions.proofs.Distinct.{NoRepeats, repeats_flat}
use Rattle.definitions.proofs.Members.{Has, member_of_all, of_flat, of_map, has_place}
use Rattle.definitions.proofs.MetOnce.{sets_once}
use Rattle.definitions.proofs.SetOrder.{lex, sorted_in_order}
use Rattle.refutation.specs.Checking.{AreOfModel}
use Rattle.tuple_index.specs.Places.{RisesFrom, tuple_lists}
use Rattle.tuple_index.specs.Plan.{IsChoice, PlanView, negative_count, plan_of, set_at, tuple_cells}
use Rattle.tuple_index.proofs.ChoiceAt.{choice_at}
use Rattle.tuple_index.proofs.InverseLemmas.{tuples_differ, cells_tell}
use Rattle.tuple_index.proofs.OrderLemmas.{demanded_rise}
use Rattle.tuple_index.proofs.RankLemmas.{choice_long}
use Rattle.tuple_index.proofs.TupleLemmas.{tuples_of-lists}
use Rattle.shared_marks.specs.Served.{base_of}
use Rattle.shared_marks.proofs.PlaceLemmas.{tuple_there}
use Rattle.proof_check.specs.Left.{IsPlaceOf, LacksPlace}
use Rattle.proof_check.proofs.PairLemmas.{ArePairs, assigned_is, cells_are, negatives_counted, params, values, values_exist}
use Rattle.proof_check.proofs.SetLemmas.{params_rise, same_members}
use Rattle.shared_marks.proofs.OwnTupleLemmas.{of_set}

-- a member has a place
place_has : {X : Type 0} (xs : List X) (x : X) → Has xs x → (i : ℕ) × (slice_get xs i ≡ Some x)
place_has [] x has = absurd has
place_has (y ∷ xs) x (inl same) = (0, ap Some same)
place_has (y ∷ xs) x (inr later) = let found = place_has xs x later in (suc found.0, found.1)

rises : (m : ModelView) (set : List ℕ) → Has (demanded_sets m) set → RisesFrom 0 (length m.params) set
rises m set has = member_of_all (RisesFrom 0 (length m.params)) (demanded_sets m) set (demanded_rise m) has

-- the demanded tuples are distinct
pub demanded_once : (m : ModelView) → NoRepeats (demanded_tuples m)
demanded_once m =
    repeats_flat (tuples_of m) (demanded_sets m) (λ set has. tuples_differ m set)
    (λ first second tuple has_first has_second here there.
    same_members 0 (length m.params) first second (rises m first has_first) (rises m second has_second) (λ p within.
    sym ((of_set m first tuple here).given p within) ∙ (of_set m second tuple there).given p within))
    (sets_once m)

pub demanded_long : (m : ModelView) (place : ℕ) (tuple : List (Option ℕ)) → IsPlaceOf m tuple place → length tuple ≡ length m.params
demanded_long m place tuple here =
    let part = of_flat (tuples_of m) (demanded_sets m) tuple (has_place (demanded_tuples m) place tuple here) in
    (of_set m part.0 tuple part.2).long

-- the set of a demanded tuple is that of its parameters
record IsIn (m : ModelView) (pairs : List (ℕ × ℕ)) : Type 0 where
  set : List ℕ
  demanded : Has (demanded_sets m) set
  has : Has (tuples_of m set) (cells_of (length m.params) pairs)
  is : set ≡ params pairs

in_set : (m : ModelView) (pairs : List (ℕ × ℕ)) (place : ℕ) → IsRising pairs → ArePairs m pairs → IsPlaceOf m (cells_of (length m.params) pairs) place → IsIn m pairs
in_set m pairs place rising each here =
    let cells = cells_of (length m.params) pairs in
    let part = of_flat (tuples_of m) (demanded_sets m) cells (has_place (demanded_tuples m) place cells here) in
    record {
      set = part.0;
      demanded = part.1;
      has = part.2;
      is = same_members 0 (length m.params) part.0 (params pairs) (rises m part.0 part.1) (params_rise (length m.params) pairs rising (λ pair has. (each pair has).0))
          (λ p within. sym ((of_set m part.0 cells part.2).given p within) ∙ assigned_is (length m.params) pairs p within);
    }

-- a tuple whose parameters are no demanded set isn't demanded
pub lacks_set : (m : ModelView) (pairs : List (ℕ × ℕ)) → IsRising pairs → ArePairs m pairs
    → ((set : ℕ) → set < length (demanded_sets m) → set_at (plan_of m) set ≢ params pairs) → LacksPlace m (cells_of (length m.params) pairs)
lacks_set m pairs rising each none place here =
    let own = in_set m pairs place rising each here in
    let at = place_has (demanded_sets m) own.set own.demanded in
    let within = slice_get_within (demanded_sets m) at.0 own.set at.1 in
    none at.0 within (same_Some (set_at (plan_of m) at.0) own.set (sym (slice_get-get_or (demanded_sets m) at.0 [] within) ∙ at.1) ∙ own.is)

-- a tuple with several negative values isn't demanded
pub lacks_sign : (m : ModelView) (pairs : List (ℕ × ℕ)) → IsRising pairs → ArePairs m pairs
    → 1 < count_by (λ pair. (value_at m pair.0 pair.1).negative) pairs → LacksPlace m (cells_of (length m.params) pairs)
lacks_sign m pairs rising each several place here =
    let own = in_set m pairs place rising each here in
    let cells = cells_of (length m.params) pairs in
    let rises_own = rises m own.set own.demanded in
    let chosen = of_map (tuple_cells m own.set) (tuple_lists (plan_of m) own.set) cells (subst (λ tuples. Has tuples cells) (tuples_of-lists m own.set rises_own) own.has) in
    let at = place_has (tuple_lists (plan_of m) own.set) chosen.0 chosen.1 in
    let choice = choice_at m (plan_of m) own.set chosen.0 at.0 (length m.params) refl rises_own at.1 in
    let same : chosen.0 ≡ values pairs =
    cells_tell m own.set chosen.0 (values pairs) rises_own (choice_long (plan_of m) own.set chosen.0 choice.exist)
    (length-map pairs (λ pair. pair.1) ∙ sym (ap length own.is ∙ length-map pairs (λ pair. pair.0)))
    (chosen.2 ∙ cells_are m pairs ∙ ap (λ set. tuple_cells m set (values pairs)) (sym own.is)) in
    let count : negative_count (plan_of m) own.set chosen.0 ≡ count_by (λ pair. (value_at m pair.0 pair.1).negative) pairs =
    ap (λ set. negative_count (plan_of m) set chosen.0) own.is ∙ ap (negative_count (plan_of m) (params pairs)) same ∙ negatives_counted m pairs each in
    omega (arith, several, count, choice.few)

-- a tuple of a demanded set with at most one negative value is a choice, and has its place
pub pairs_choice : (m : ModelView) (pairs : List (ℕ × ℕ)) → ArePairs m pairs → count_by (λ pair. (value_at m pair.0 pair.1).negative) pairs ≤ 1
    → IsChoice (plan_of m) (params pairs) (values pairs)
pairs_choice m pairs each few =
    let count = negatives_counted m pairs each in record { exist = values_exist m pairs each; few = omega (arith, few, count) }

pub pairs_place : (m : ModelView) (pairs : List (ℕ × ℕ)) (set rank : ℕ) → set < length (demanded_sets m) → set_at (plan_of m) set ≡ params pairs
    → slice_get (tuples_of m (set_at (plan_of m) set)) rank ≡ Some (tuple_cells m (set_at (plan_of m) set) (values pairs))
    → IsPlaceOf m (cells_of (length m.params) pairs) (base_of m set + rank)
pairs_place m pairs set rank within same here =
    tuple_there m set rank within (slice_get_within (tuples_of m (set_at (plan_of m) set)) rank (tuple_cells m (set_at (plan_of m) set) (values pairs)) here)
    ∙ here ∙ ap Some (ap (λ s. tuple_cells m s (values pairs)) same ∙ sym (cells_are m pairs))

-- the same of a plan, the parameters and the values that a caller has
pub record Caller (m : ModelView) (plan : PlanView) (pairs : List (ℕ × ℕ)) (own : List ℕ) : Type 0 where
  pub plan_is : plan ≡ plan_of m
  pub rising : IsRising pairs
  pub each : ArePairs m pairs
  pub own_is : own ≡ params pairs

pub caller_of : (m : ModelView) (plan : PlanView) (pairs : List (ℕ × ℕ)) (own : List ℕ) → plan ≡ plan_of m → IsRising pairs → AreOfModel m pairs
    → own ≡ params pairs → Caller m plan pairs own
caller_of m plan pairs own plan_is rising each own_is = record {
  plan_is = plan_is;
  rising = rising;
  each = λ pair has. member_of_all (λ (pair : ℕ × ℕ). (pair.0 < length m.params) × (pair.1 < length (param_at m.params pair.0).values)) pairs pair each has;
  own_is = own_is;
}

pub sets_sorted : (m : ModelView) (plan : PlanView) → plan ≡ plan_of m → IsStrictlySortedBy lex plan.sets
sets_sorted m plan same = subst (λ (p : PlanView). IsStrictlySortedBy lex p.sets) (sym same) (sorted_in_order (map (rising m) (choices m)))

pub caller_lacks : (m : ModelView) (plan : PlanView) (pairs : List (ℕ × ℕ)) (own : List ℕ) → Caller m plan pairs own
    → ((set : ℕ) → set < length plan.sets → set_at plan set ≢ own) → LacksPlace m (cells_of (length m.params) pairs)
caller_lacks m plan pairs own is none =
    lacks_set m pairs is.rising is.each (λ set within same.
    none set (subst (λ (p : PlanView). set < length p.sets) (sym is.plan_is) within) (ap (λ p. set_at p set) is.plan_is ∙ same ∙ sym is.own_is))

pub caller_choice : (m : ModelView) (plan : PlanView) (pairs : List (ℕ × ℕ)) (own chosen : List ℕ) (set : ℕ) → Caller m plan pairs own → set_at plan set ≡ own
    → chosen ≡ values pairs → count_by (λ pair. (value_at m pair.0 pair.1).negative) pairs ≤ 1 → IsChoice plan (set_at plan set) chosen
caller_choice m plan pairs own chosen set is found chosen_is few =
    subst (λ (p : PlanView). IsChoice p (set_at plan set) chosen) (sym is.plan_is)
    (subst (λ (s : List ℕ). IsChoice (plan_of m) s chosen) (sym (found ∙ is.own_is))
    (subst (λ (vs : List ℕ). IsChoice (plan_of m) (params pairs) vs) (sym chosen_is) (pairs_choice m pairs is.each few)))

pub caller_place : (m : ModelView) (plan : PlanView) (pairs : List (ℕ × ℕ)) (own chosen : List ℕ) (set rank base : ℕ) → Caller m plan pairs own
    → set < length plan.sets → set_at plan set ≡ own
    → chosen ≡ values pairs → slice_get (tuples_of m (set_at plan set)) rank ≡ Some (tuple_cells m (set_at plan set) chosen) → base ≡ sum (take set plan.sizes)
    → IsPlaceOf m (cells_of (length m.params) pairs) (base + rank)
caller_place m plan pairs own chosen set rank base is within found chosen_is here base_is =
    let on : slice_get (tuples_of m (set_at (plan_of m) set)) rank ≡ Some (tuple_cells m (set_at (plan_of m) set) (values pairs)) =
    ap (λ (p : PlanView). slice_get (tuples_of m (set_at p set)) rank) (sym is.plan_is) ∙ here
    ∙ ap (λ (p : PlanView). Some (tuple_cells m (set_at p set) chosen)) is.plan_is ∙ ap (λ vs. Some (tuple_cells m (set_at (plan_of m) set) vs)) chosen_is in
    ap (λ b. slice_get (demanded_tuples m) (b + rank)) (base_is ∙ ap (λ (p : PlanView). sum (take set p.sizes)) is.plan_is)
    ∙ pairs_place m pairs set rank (subst (λ (p : PlanView). set < length p.sets) is.plan_is within)
    (ap (λ (p : PlanView). set_at p set) (sym is.plan_is) ∙ found ∙ is.own_is) on
