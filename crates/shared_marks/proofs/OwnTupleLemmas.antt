-- The one tuple of a set that a valid row serves: that of its own values.
use Rattle.std.proofs.Common.{inl, inr, ◌≡◌, ℕ, ◌+◌, ◌<◌, ◌≤◌, Bool, true, false, ◌&&◌, ◌||◌, not, cond, List, [], ◌∷◌, map, length}
use Rattle.std.proofs.Common.{get_or, Option, Some, None, is_some, unwrap_or, ◌∙◌, refl, sym, ap, arith, zero-add}
use Rattle.std.specs.Prelude.{◌==◌, slice_get, nat_le}
use Rattle.std.specs.List.{list_all}
use Rattle.std.proofs.lemmas.Bool.{and_from, and_parts, eq-eqb, eqb-true, false_from_ne_true, false≢true, leb-true, not_from_false, or_left, or_right, true_from_ne_false}
use Rattle.std.proofs.lemmas.Option.{same_Some, slice_get_within}
use Rattle.std.proofs.lemmas.List.{get_or_default, same_lists}
use Rattle.std.proofs.lemmas.List.FromFn.{get_or-map-range_with_len, length-map-range_with_len}
use Rattle.cov_model.specs.declared.slice.Slice.{Slice}
use Rattle.cov_model.specs.believed.Sound.{ModelView, param_at}
use Rattle.cov_model.specs.believed.Meaning.{body_holds, value_at}
use Rattle.cov_model.specs.believed.Rows.{contains, is_assigned, value_in}
use Rattle.cov_model.specs.believed.Slices.{negative_values, positive_values, slice_by, slice_of, slices, value_numbers}
use Rattle.cov_model.specs.believed.Valid.{is_row, is_valid, negatives, serves}
use Rattle.cov_model.proofs.CellLemmas.{assigned_within, contains-from, contains-value_in, length-slice_values}
use Rattle.cov_model.proofs.RowLemmas.{FitsModel-is_row, row_has_value, row_is_assigned}
use Rattle.definitions.specs.believed.Demand.{demanded_sets, is_among, tuples_in, tuples_of}
use Rattle.definitions.proofs.Members.{Has, all_pass, among_has, has_filter, of_among, of_filter, of_flat, same_answer, has_place}
use Rattle.definitions.proofs.InPlay.{tuple_is}
use Rattle.definitions.proofs.Serving.{of_serves, value_of}
use Rattle.definitions.proofs.SliceLemmas.{has_negatives, has_numbers, is_slice, of_negatives}
use Rattle.tuple_index.specs.Places.{RisesFrom, has_part}
use Rattle.tuple_index.specs.Plan.{IsChoice, PlanView, are_values, is_negative, is_value, negative_count, plan_of, set_at, tuple_cells, value_given}
use Rattle.tuple_index.proofs.InverseLemmas.{ranks_are_inverse}
use Rattle.tuple_index.proofs.OrderLemmas.{demanded_rise}
use Rattle.shared_marks.specs.Served.{IsServedRank}

-- what is known of a valid row
pub record ValidRow (m : ModelView) (row : List (Option ℕ)) : Type 0 where
  pub valid : is_valid m row ≡ true
  pub complete : is_row m row ≡ true
  pub long : length row ≡ length m.params
  pub few : length (negatives m row) ≤ 1

pub of_valid : (m : ModelView) (row : List (Option ℕ)) → is_valid m row ≡ true → ValidRow m row
of_valid m row valid =
    let whole = and_parts (is_row m row && list_all (λ rule. body_holds m rule.body row) m.rules) (nat_le (length (negatives m row)) 1) valid in
    let first = and_parts (is_row m row) (list_all (λ rule. body_holds m rule.body row) m.rules) whole.0 in
    record {
      valid = valid;
      complete = first.0;
      long = (FitsModel-is_row m row first.0).as_long;
      few = leb-true (length (negatives m row)) 1 whole.1;
    }

-- the tuple of a row's own values
abbrev pub own_values : List ℕ → List (Option ℕ) → List ℕ
own_values set row = map (value_in row) set

abbrev pub own_tuple : ModelView → List ℕ → List (Option ℕ) → List (Option ℕ)
own_tuple m set row = tuple_cells m set (own_values set row)

given_own : (f : ℕ → ℕ) (set : List ℕ) (p : ℕ) → value_given set (map f set) p ≡ cond (is_among set p) (Some (f p)) None
given_own f [] p = refl
given_own f (q ∷ set) p = by_test (q == p) refl (given_own f set p)
  where
    by_test : (b : Bool) → (q == p) ≡ b → value_given set (map f set) p ≡ cond (is_among set p) (Some (f p)) None
        → cond b (Some (f q)) (value_given set (map f set) p) ≡ cond (b || is_among set p) (Some (f p)) None
    by_test true same later = ap (λ k. Some (f k)) (eqb-true q p same)
    by_test false apart later = later

own_cell : (m : ModelView) (set : List ℕ) (row : List (Option ℕ)) (p : ℕ) → p < length m.params
    → get_or (own_tuple m set row) p None ≡ cond (is_among set p) (Some (value_in row p)) None
own_cell m set row p within =
    get_or-map-range_with_len (value_given set (own_values set row)) 0 (length m.params) p p None within (zero-add p) ∙ given_own (value_in row) set p

own_long : (m : ModelView) (set : List ℕ) (row : List (Option ℕ)) → length (own_tuple m set row) ≡ length m.params
own_long m set row = length-map-range_with_len (value_given set (own_values set row)) 0 (length m.params)

own_assigned : (m : ModelView) (set : List ℕ) (row : List (Option ℕ)) (p : ℕ) → p < length m.params
    → is_assigned (own_tuple m set row) p ≡ is_among set p
own_assigned m set row p within = ap is_some (own_cell m set row p within) ∙ by_test (is_among set p)
  where
    by_test : (b : Bool) → is_some (cond b (Some (value_in row p)) None) ≡ b
    by_test true = refl
    by_test false = refl

-- a cell by its value
cell_is : (cell : Option ℕ) (b : Bool) (v : ℕ) → is_some cell ≡ b → (b ≡ true → unwrap_or cell 0 ≡ v) → cell ≡ cond b (Some v) None
cell_is None true v given value = absurd (false≢true given)
cell_is None false v given value = refl
cell_is (Some w) true v given value = ap Some (value refl)
cell_is (Some w) false v given value = absurd (false≢true (sym given))

-- the row contains this tuple
own_contained : (m : ModelView) (set : List ℕ) (row : List (Option ℕ)) → ValidRow m row → contains row (own_tuple m set row) ≡ true
own_contained m set row is = contains-from row (own_tuple m set row) same
  where
    same : (p : ℕ) → is_assigned (own_tuple m set row) p ≡ true → get_or row p None ≡ get_or (own_tuple m set row) p None
    same p assigned =
        let within : p < length m.params = omega (arith, assigned_within (own_tuple m set row) p assigned, own_long m set row) in
        cell_is (get_or row p None) true (value_in row p) (row_is_assigned m row p is.complete within) (λ e. refl)
        ∙ sym (own_cell m set row p within ∙ ap (λ b. cond b (Some (value_in row p)) None) (sym (own_assigned m set row p within) ∙ assigned))

-- a tuple of a set has values at the members of the set alone
pub record IsOf (m : ModelView) (set : List ℕ) (tuple : List (Option ℕ)) : Type 0 where
  pub long : length tuple ≡ length m.params
  pub given : (p : ℕ) → p < length m.params → is_assigned tuple p ≡ is_among set p

pub of_set : (m : ModelView) (set : List ℕ) (tuple : List (Option ℕ)) → Has (tuples_of m set) tuple → IsOf m set tuple
of_set m set tuple has =
    let part = of_flat (tuples_in m set) (slices m) tuple has in
    let choice = (tuple_is m set part.0 tuple (is_slice m part.0 part.1) part.2).choice in
    let lists = length-slice_values m part.0 in
    record {
      long = choice.long ∙ lists;
      given = λ p within. choice.given p (omega (arith, within, lists)) ∙ ap (is_among set) (zero-add p);
    }

-- any tuple of the set that the row contains is this one
contained_is_own : (m : ModelView) (set : List ℕ) (row tuple : List (Option ℕ)) → IsOf m set tuple → contains row tuple ≡ true
    → tuple ≡ own_tuple m set row
contained_is_own m set row tuple of contained =
    same_lists tuple (own_tuple m set row) (of.long ∙ sym (own_long m set row)) (λ p other inside.
    let within : p < length m.params = omega (arith, inside, of.long) in
    get_or_default tuple p other None inside
    ∙ cell_is (get_or tuple p None) (is_among set p) (value_in row p) (of.given p within) (λ among.
    sym (contains-value_in row tuple p contained (of.given p within ∙ among)))
    ∙ sym (own_cell m set row p within) ∙ get_or_default (own_tuple m set row) p None other (omega (arith, within, own_long m set row)))

-- where the set has tuples in the row's slice, the row's negative values are of its members
part_has : (set : List ℕ) (row : List (Option ℕ)) (ns : List ℕ) (p : ℕ) → length ns ≤ 1 → has_part set (slice_by row ns) ≡ true → Has ns p
    → is_among set p ≡ true
part_has set row [] p few part has = absurd has
part_has set row (q ∷ []) p few part (inl same) = ap (is_among set) (sym same) ∙ part
part_has set row (q ∷ []) p few part (inr none) = absurd none
part_has set row (q ∷ r ∷ ns) p few part has = absurd (omega (arith, few))

-- where it has none, one of these values isn't
part_lacks : (set : List ℕ) (row : List (Option ℕ)) (ns : List ℕ) → has_part set (slice_by row ns) ≡ false
    → (q : ℕ) × Has ns q × (is_among set q ≡ false)
part_lacks set row [] part = absurd (false≢true (sym part))
part_lacks set row (q ∷ ns) part = (q, inl refl, part)

-- the row serves its own tuple
serves_own : (m : ModelView) (set : List ℕ) (row : List (Option ℕ)) → ValidRow m row → has_part set (slice_of m row) ≡ true
    → serves m row (own_tuple m set row) ≡ true
serves_own m set row is part =
    and_from (is_valid m row && contains row (own_tuple m set row)) (list_all (is_assigned (own_tuple m set row)) (negatives m row))
    (and_from (is_valid m row) (contains row (own_tuple m set row)) is.valid (own_contained m set row is))
    (all_pass (is_assigned (own_tuple m set row)) (negatives m row) (λ p has.
    own_assigned m set row p (of_negatives m row p has).within ∙ part_has set row (negatives m row) p is.few part has))

-- a tuple that it serves is its own, and the set has tuples in its slice
served_is_own : (m : ModelView) (set : List ℕ) (row tuple : List (Option ℕ)) → IsOf m set tuple → serves m row tuple ≡ true
    → (tuple ≡ own_tuple m set row) × (has_part set (slice_of m row) ≡ true)
served_is_own m set row tuple of holds = (
  contained_is_own m set row tuple of (of_serves m row tuple holds).contained,
  true_from_ne_false (has_part set (slice_of m row)) (λ part.
      let lacks = part_lacks set row (negatives m row) part in
      let within = (of_negatives m row lacks.0 lacks.1).within in
      false≢true (sym lacks.2 ∙ sym (of.given lacks.0 within) ∙ (of_serves m row tuple holds).negatives_in lacks.0 lacks.1)),
)

pub negatives_listed : (m : ModelView) (p : ℕ) → p < length m.params → get_or (plan_of m).negatives p [] ≡ negative_values m p
negatives_listed m p within = get_or-map-range_with_len (negative_values m) 0 (length m.params) p p [] within (zero-add p)

-- a value of a parameter is one of its positive or of its negative ones
pub sign_of : (m : ModelView) (p v : ℕ) → p < length m.params → v < length (param_at m.params p).values → is_value (plan_of m) p v ≡ true
sign_of m p v within exists = by_sign (value_at m p v).negative refl
  where
    by_sign : (b : Bool) → (value_at m p v).negative ≡ b → is_value (plan_of m) p v ≡ true
    by_sign true is =
        or_right (is_among (get_or (plan_of m).positives p []) v) (is_negative (plan_of m) p v)
        (ap (λ ns. is_among ns v) (negatives_listed m p within)
        ∙ among_has (negative_values m p) v (has_filter (λ w. (value_at m p w).negative) (value_numbers m p) v (has_numbers m p v exists) is))
    by_sign false is =
        or_left (is_among (get_or (plan_of m).positives p []) v) (is_negative (plan_of m) p v)
        (ap (λ ns. is_among ns v) (get_or-map-range_with_len (positive_values m) 0 (length m.params) p p [] within (zero-add p))
        ∙ among_has (positive_values m p) v
        (has_filter (λ w. not (value_at m p w).negative) (value_numbers m p) v (has_numbers m p v exists) (not_from_false (value_at m p v).negative is)))

-- so the row's own values exist
own_exist : (m : ModelView) (row : List (Option ℕ)) (set : List ℕ) (p : ℕ) → ValidRow m row → RisesFrom p (length m.params) set
    → are_values (plan_of m) set (own_values set row) ≡ true
own_exist m row [] p is rises = refl
own_exist m row (q ∷ set) p is rises =
    let exists = (value_of m row q (row_has_value m row q is.complete rises.1)).exists in
    and_from (is_value (plan_of m) q (value_in row q)) (are_values (plan_of m) set (own_values set row)) (sign_of m q (value_in row q) rises.1 exists)
    (own_exist m row set (q + 1) is rises.2)

-- and at most one of them is negative
one_of : (ns : List ℕ) (p q : ℕ) → length ns ≤ 1 → Has ns p → Has ns q → p ≡ q
one_of [] p q few first second = absurd first
one_of (n ∷ []) p q few (inl first) (inl second) = sym first ∙ second
one_of (n ∷ []) p q few (inl first) (inr none) = absurd none
one_of (n ∷ []) p q few (inr none) second = absurd none
one_of (n ∷ k ∷ ns) p q few first second = absurd (omega (arith, few))

pub own_negative : (m : ModelView) (row : List (Option ℕ)) (p : ℕ) → ValidRow m row → p < length m.params
    → is_negative (plan_of m) p (value_in row p) ≡ true → Has (negatives m row) p
own_negative m row p is within negative =
    let listed = of_among (negative_values m p) (value_in row p) (sym (ap (λ ns. is_among ns (value_in row p)) (negatives_listed m p within)) ∙ negative) in
    has_negatives m row p (record {
      within = within;
      assigned = row_is_assigned m row p is.complete within;
      negative = (of_filter (λ v. (value_at m p v).negative) (value_numbers m p) (value_in row p) listed).1;
    })

none_behind : (m : ModelView) (row : List (Option ℕ)) (p from : ℕ) (set : List ℕ) → ValidRow m row → Has (negatives m row) p → p < from
    → RisesFrom from (length m.params) set → negative_count (plan_of m) set (own_values set row) ≡ 0
none_behind m row p from [] is has behind rises = refl
none_behind m row p from (q ∷ set) is has behind rises =
    ap (λ b. cond b 1 0 + negative_count (plan_of m) set (own_values set row)) positive
    ∙ ap (λ n. 0 + n) (none_behind m row p (q + 1) set is has (omega (arith, behind, rises.0)) rises.2)
  where
    positive : is_negative (plan_of m) q (value_in row q) ≡ false
    positive =
        false_from_ne_true (is_negative (plan_of m) q (value_in row q)) (λ negative.
        let same = one_of (negatives m row) p q is.few has (own_negative m row q is rises.1 negative) in
        omega (arith, same, behind, rises.0))

own_few : (m : ModelView) (row : List (Option ℕ)) (set : List ℕ) (p : ℕ) → ValidRow m row → RisesFrom p (length m.params) set
    → negative_count (plan_of m) set (own_values set row) ≤ 1
own_few m row [] p is rises = omega arith
own_few m row (q ∷ set) p is rises = by_sign (is_negative (plan_of m) q (value_in row q)) refl (own_few m row set (q + 1) is rises.2)
  where
    rest : ℕ
    rest = negative_count (plan_of m) set (own_values set row)

    by_sign : (b : Bool) → is_negative (plan_of m) q (value_in row q) ≡ b → rest ≤ 1 → cond b 1 0 + rest ≤ 1
    by_sign true negative few =
        let none = none_behind m row q (q + 1) set is (own_negative m row q is rises.1 negative) (omega arith) rises.2 in
        omega (arith, none)
    by_sign false positive few = omega (arith, few)

pub own_choice : (m : ModelView) (row : List (Option ℕ)) (set : List ℕ) → ValidRow m row → RisesFrom 0 (length m.params) set
    → IsChoice (plan_of m) set (own_values set row)
own_choice m row set is rises = record { exist = own_exist m row set 0 is rises; few = own_few m row set 0 is rises }

-- the rank of the row's own tuple is the rank of the one that it serves
pub own_rank : (m : ModelView) (row : List (Option ℕ)) (i rank : ℕ) → ValidRow m row → i < length (demanded_sets m)
    → has_part (set_at (plan_of m) i) (slice_of m row) ≡ true
    → slice_get (tuples_of m (set_at (plan_of m) i)) rank ≡ Some (own_tuple m (set_at (plan_of m) i) row)
    → IsServedRank m (set_at (plan_of m) i) row (Some rank)
own_rank m row i rank is within part here = record { within = slice_get_within (tuples_of m set) rank own here; served = served }
  where
    set : List ℕ
    set = set_at (plan_of m) i

    own : List (Option ℕ)
    own = own_tuple m set row

    choice : IsChoice (plan_of m) set (own_values set row)
    choice = own_choice m row set is (demanded_rise m i [] within)

    served : (other : ℕ) (tuple : List (Option ℕ)) → slice_get (tuples_of m set) other ≡ Some tuple → serves m row tuple ≡ (rank == other)
    served other tuple there = same_answer (serves m row tuple) (rank == other) only own_serves
      where
        only : serves m row tuple ≡ true → (rank == other) ≡ true
        only holds =
            let same = (served_is_own m set row tuple (of_set m set tuple (has_place (tuples_of m set) other tuple there)) holds).0 in
            eq-eqb rank other
            ((ranks_are_inverse m i [] within (own_values set row) (own_values set row) rank other choice choice here (there ∙ ap Some same)).1 refl)

        own_serves : (rank == other) ≡ true → serves m row tuple ≡ true
        own_serves equal =
            let same = same_Some tuple own (sym there ∙ ap (slice_get (tuples_of m set)) (sym (eqb-true rank other equal)) ∙ here) in
            ap (serves m row) same ∙ serves_own m set row is part

-- where the set has no tuples in the row's slice, the row serves none
pub no_rank : (m : ModelView) (row : List (Option ℕ)) (set : List ℕ) → has_part set (slice_of m row) ≡ false → IsServedRank m set row None
no_rank m row set part = record {
  within = tt;
  served = λ rank tuple here.
      false_from_ne_true (serves m row tuple) (λ holds.
      false≢true
      (sym part ∙ (served_is_own m set row tuple (of_set m set tuple (has_place (tuples_of m set) rank tuple here)) holds).1));
}

-- the set of a plan of the model, and the values that a row gives its members
pub record ChosenFrom (m : ModelView) (plan : PlanView) (i : ℕ) (row : List (Option ℕ)) (members : List ℕ) : Type 0 where
  pub planned : plan ≡ plan_of m
  pub within : i < length (demanded_sets m)
  pub is : ValidRow m row
  pub listed : members ≡ set_at plan i

pub chosen_from : (m : ModelView) (plan : PlanView) (i : ℕ) (row : List (Option ℕ)) (members : List ℕ) → plan ≡ plan_of m
    → i < length (demanded_sets m) → is_valid m row ≡ true → members ≡ set_at plan i → ChosenFrom m plan i row members
chosen_from m plan i row members planned within valid listed =
    record { planned = planned; within = within; is = of_valid m row valid; listed = listed }

pub chosen_none : (m : ModelView) (plan : PlanView) (i : ℕ) (row : List (Option ℕ)) (members : List ℕ) (slice : Slice)
    → ChosenFrom m plan i row members → slice ≡ slice_of m row → has_part members slice ≡ false
    → IsServedRank m (set_at (plan_of m) i) row None
chosen_none m plan i row members slice from own part =
    let listed = from.listed ∙ ap (λ p. set_at p i) from.planned in
    no_rank m row (set_at (plan_of m) i) (sym (ap (λ ms. has_part ms slice) listed ∙ ap (has_part (set_at (plan_of m) i)) own) ∙ part)
