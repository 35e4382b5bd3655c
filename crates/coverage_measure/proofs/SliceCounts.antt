-- The tuples of a set are counted slice by slice: in the positive one, then with each negative value of each member.
use Rattle.std.proofs.Common.{◌≡◌, ℕ, ◌+◌, ◌<◌, ◌≤◌, true, false, cond, List, [], ◌++◌, length, get_or, find}
use Rattle.std.proofs.Common.{Option, None, refl, ◌∙◌, sym, ap, subst, arith, zero-add, length-append}
use Rattle.std.specs.List.{filter, flat_map}
use Rattle.std.specs.Option.{option_or}
use Rattle.std.proofs.lemmas.List.{append-nil, get_or_default}
use Rattle.std.proofs.lemmas.List.Elements.{filter-append}
use Rattle.std.proofs.lemmas.List.Folds.{find-append}
use Rattle.std.proofs.lemmas.List.FromFn.{get_or-range_with_len, length-range_with_len}
use Rattle.cov_model.specs.declared.slice.Slice.TheVariants.{Negative, Positive}
use Rattle.cov_model.specs.believed.Meaning.{value_at}
use Rattle.cov_model.specs.believed.Slices.{value_numbers}
use Rattle.cov_model.specs.believed.Sound.{ModelView, no_param, param_at}
use Rattle.cov_model.specs.declared.parameter.Param.{Param}
use Rattle.definitions.specs.declared.effort.Effort.{Effort}
use Rattle.definitions.specs.believed.Demand.{tuples_in, tuples_of}
use Rattle.definitions.specs.believed.Figures.{all_rows, is_served, servable}
use Rattle.definitions.specs.believed.Search.{first_over}
use Rattle.feasibility.specs.declared.answer.SearchFault.{SearchFault}
use Rattle.feasibility.specs.Ends.{EndsBy}
use Rattle.tuple_index.specs.Places.{RisesFrom}
use Rattle.value_text.proofs.ListLemmas.{length-filter-le}
use Rattle.coverage_measure.specs.Asking.{tally}
use Rattle.coverage_measure.proofs.CountLemmas.{IsCounted, counted_all, counted_more, counted_within, is_over, negative_by_value, negative_tuples}
use Rattle.coverage_measure.proofs.CountLemmas.{sum_few, tuples_by_slice, tuples_with}
use Rattle.coverage_measure.proofs.EndLemmas.{ends_item, ends_whole}

-- each tuple of so many of the items is counted for itself, where some row of the model serves it
abbrev pub AreServed : {X : Type 0} → ModelView → List (List ℕ) → Effort → (X → List (List (Option ℕ))) → List X → ℕ → ℕ → Type 0
AreServed m pref effort rows items i count = IsCounted (is_served m (all_rows m)) (is_over m pref effort) rows items 1 i count

pub served_more : {X : Type 0} (m : ModelView) (pref : List (List ℕ)) (effort : Effort) (rows : X → List (List (Option ℕ))) (items : List X)
    (i count inner next : ℕ) (x : X)
    → i < length items → x ≡ get_or items i x → AreServed m pref effort rows items i count → inner ≡ tally (is_served m (all_rows m)) (rows x)
    → first_over m pref effort (rows x) ≡ None → next ≡ count + inner → AreServed m pref effort rows items (i + 1) next
served_more m pref effort rows items i count inner next x within is so_far inner_is none next_is =
    counted_more (is_served m (all_rows m)) (is_over m pref effort) rows items 1 i count inner next x within is so_far inner_is none (omega (arith, next_is))

pub served_few : {X : Type 0} (m : ModelView) (pref : List (List ℕ)) (effort : Effort) (rows : X → List (List (Option ℕ))) (items : List X) (i count inner : ℕ)
    (x : X)
    → i < length items → x ≡ get_or items i x → AreServed m pref effort rows items i count → inner ≡ tally (is_served m (all_rows m)) (rows x)
    → count + inner ≤ length (flat_map rows items)
served_few m pref effort rows items i count inner x within is so_far inner_is =
    let few = sum_few (is_served m (all_rows m)) rows items in
    let all = counted_within (is_served m (all_rows m)) (is_over m pref effort) rows items 1 i count inner
    (length (flat_map rows items)) x within is so_far inner_is
    (omega (arith, few.0, few.1)) in
    omega (arith, all)

pub served_all : {X : Type 0} (m : ModelView) (pref : List (List ℕ)) (effort : Effort) (rows : X → List (List (Option ℕ))) (items : List X) (i count : ℕ)
    → length items ≤ i → AreServed m pref effort rows items i count
    → (count ≡ tally (is_served m (all_rows m)) (flat_map rows items)) × (first_over m pref effort (flat_map rows items) ≡ None)
served_all m pref effort rows items i count past so_far =
    let all = counted_all (is_served m (all_rows m)) (is_over m pref effort) rows items 1 i count past so_far in
    (all.0 ∙ (sum_few (is_served m (all_rows m)) rows items).0, all.1)

-- the values of a parameter by their numbers
pub record IsValueAt (m : ModelView) (q v : ℕ) : Type 0 where
  pub within : v < length (value_numbers m q)
  pub is : v ≡ get_or (value_numbers m q) v v

pub value_number : (m : ModelView) (q v : ℕ) → v < length (param_at m.params q).values → IsValueAt m q v
value_number m q v within =
    let count = length (param_at m.params q).values in
    record {
      within = omega (arith, within, length-range_with_len 0 count);
      is = sym (zero-add v) ∙ sym (get_or-range_with_len 0 count v v within);
    }

-- as many as the model's list of parameters has
pub values_are : (m : ModelView) (q : ℕ) (params : List Param) (param : Param) → q < length m.params → params ≡ m.params
    → length (get_or params q param).values ≡ length (param_at m.params q).values
values_are m q params param low same =
    ap (λ (all : List Param). length (get_or all q param).values) same ∙ ap (λ (one : Param). length one.values) (get_or_default m.params q param no_param low)

-- what a value adds
pub with_negative : (m : ModelView) (set : List ℕ) (q v : ℕ) → (value_at m q v).negative ≡ true → tuples_with m set q v ≡ tuples_in m set (Negative q v)
with_negative m set q v negative = ap (λ b. cond b (tuples_in m set (Negative q v)) []) negative

pub with_positive : (m : ModelView) (set : List ℕ) (q v : ℕ) → (value_at m q v).negative ≡ false → tuples_with m set q v ≡ []
with_positive m set q v positive = ap (λ b. cond b (tuples_in m set (Negative q v)) []) positive

-- a run over a member's negative values ends as over the tuples with one of them
pub negative_ends : (m : ModelView) (pref : List (List ℕ)) (effort : Effort) (set : List ℕ) (q v count : ℕ) (fault : SearchFault)
    → v < length (param_at m.params q).values
    → (value_at m q v).negative ≡ true → AreServed m pref effort (tuples_with m set q) (value_numbers m q) v count
    → EndsBy (first_over m pref effort (tuples_in m set (Negative q v))) fault → EndsBy (first_over m pref effort (negative_tuples m set q)) fault
negative_ends m pref effort set q v count fault within negative so_far ends =
    let at = value_number m q v within in
    subst (λ tuples. EndsBy (first_over m pref effort tuples) fault) (sym (negative_by_value m set q))
    (ends_item (is_over m pref effort) (tuples_with m set q) (value_numbers m q) v v fault at.within so_far.none
    (subst (λ w. EndsBy (first_over m pref effort (tuples_with m set q w)) fault) at.is
    (subst (λ tuples. EndsBy (first_over m pref effort tuples) fault) (sym (with_negative m set q v negative)) ends)))

-- a run over a set ends as over its tuples in the positive slice
pub positive_ends : (m : ModelView) (pref : List (List ℕ)) (effort : Effort) (set : List ℕ) (fault : SearchFault) → RisesFrom 0 (length m.params) set
    → EndsBy (first_over m pref effort (tuples_in m set Positive)) fault → EndsBy (first_over m pref effort (tuples_of m set)) fault
positive_ends m pref effort set fault rises ends =
    subst (λ tuples. EndsBy (first_over m pref effort tuples) fault) (sym (tuples_by_slice m set rises))
    (ends_whole (is_over m pref effort) [] (tuples_in m set Positive) (flat_map (negative_tuples m set) set) fault refl ends)

-- or else as over those with a negative value of a member
pub member_ends : (m : ModelView) (pref : List (List ℕ)) (effort : Effort) (set : List ℕ) (i d count : ℕ) (fault : SearchFault) → RisesFrom 0 (length m.params) set
    → i < length set → first_over m pref effort (tuples_in m set Positive) ≡ None → AreServed m pref effort (negative_tuples m set) set i count
    → EndsBy (first_over m pref effort (negative_tuples m set (get_or set i d))) fault → EndsBy (first_over m pref effort (tuples_of m set)) fault
member_ends m pref effort set i d count fault rises within none so_far ends =
    let negative = flat_map (negative_tuples m set) set in
    subst (λ tuples. EndsBy (first_over m pref effort tuples) fault)
    (ap (λ later. tuples_in m set Positive ++ later) (append-nil negative) ∙ sym (tuples_by_slice m set rises))
    (ends_whole (is_over m pref effort) (tuples_in m set Positive) negative [] fault none
    (ends_item (is_over m pref effort) (negative_tuples m set) set i d fault within so_far.none ends))

-- both parts are the whole
pub record IsSetCounted (m : ModelView) (pref : List (List ℕ)) (effort : Effort) (set : List ℕ) (positive negative : ℕ) : Type 0 where
  pub count : positive + negative ≡ servable m set
  pub few : positive + negative ≤ length (tuples_of m set)
  pub none : first_over m pref effort (tuples_of m set) ≡ None

-- those with a negative value are no more than all of the set
pub negative_part : (m : ModelView) (set : List ℕ) → RisesFrom 0 (length m.params) set → length (flat_map (negative_tuples m set) set)
    ≤ length (tuples_of m set)
negative_part m set rises =
    omega (arith, ap length (tuples_by_slice m set rises), length-append (tuples_in m set Positive) (flat_map (negative_tuples m set) set))

tally_parts : (m : ModelView) (set : List ℕ) → RisesFrom 0 (length m.params) set
    → servable m set ≡ tally (is_served m (all_rows m)) (tuples_in m set Positive) + tally (is_served m (all_rows m)) (flat_map (negative_tuples m set) set)
tally_parts m set rises =
    let served = is_served m (all_rows m) in
    ap (tally served) (tuples_by_slice m set rises)
    ∙ ap length (filter-append served (tuples_in m set Positive) (flat_map (negative_tuples m set) set))
    ∙ length-append (filter served (tuples_in m set Positive)) (filter served (flat_map (negative_tuples m set) set))

pub set_counted : (m : ModelView) (pref : List (List ℕ)) (effort : Effort) (set : List ℕ) (i positive negative : ℕ) → RisesFrom 0 (length m.params) set
    → length set ≤ i
    → positive ≡ tally (is_served m (all_rows m)) (tuples_in m set Positive) → first_over m pref effort (tuples_in m set Positive) ≡ None
    → AreServed m pref effort (negative_tuples m set) set i negative → IsSetCounted m pref effort set positive negative
set_counted m pref effort set i positive negative rises past positive_is none so_far =
    let all = served_all m pref effort (negative_tuples m set) set i negative past so_far in
    let later = flat_map (negative_tuples m set) set in
    let whole : positive + negative ≡ servable m set = omega (arith, positive_is, all.0, tally_parts m set rises) in
    record {
      count = whole;
      few = omega (arith, whole, length-filter-le (is_served m (all_rows m)) (tuples_of m set));
      none =
          ap (first_over m pref effort) (tuples_by_slice m set rises) ∙ find-append (is_over m pref effort) (tuples_in m set Positive) later
          ∙ ap (λ found. option_or found (find (is_over m pref effort) later)) none ∙ all.1;
    }
