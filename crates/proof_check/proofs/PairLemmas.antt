-- Tuples as pairs, as values of a set, and as partial rows.
use Rattle.std.proofs.Common.{◌≡◌, ℕ, ◌+◌, ◌<◌, Bool, true, false, ◌||◌, cond, List, [], ◌∷◌, map, length, get_or}
use Rattle.std.proofs.Common.{Some, None, is_some, inl, inr, ◌∙◌, refl, sym, ap, arith, zero-add}
use Rattle.std.specs.Prelude.{◌==◌}
use Rattle.std.specs.List.{count_by}
use Rattle.std.proofs.lemmas.Bool.{and_from, cases_eq, eq-eqb, ne_eqb}
use Rattle.std.proofs.lemmas.List.{get_or-set_other, get_or-set_same, get_or_default, same_lists}
use Rattle.std.proofs.lemmas.List.FromFn.{get_or-map-range_with_len, length-map-range_with_len}
use Rattle.std.proofs.lemmas.List.Sums.{sum_by-cons}
use Rattle.value_text.proofs.ListLemmas.{none_at}
use Rattle.cov_model.specs.believed.Meaning.{value_at}
use Rattle.cov_model.specs.believed.Slices.{negative_values, value_numbers}
use Rattle.cov_model.specs.believed.Sound.{ModelView, param_at}
use Rattle.definitions.specs.believed.Demand.{is_among}
use Rattle.cov_model.specs.believed.Tuples.{cells_of}
use Rattle.definitions.proofs.Members.{Has, among_has, has_filter, of_among, of_filter, same_answer}
use Rattle.definitions.proofs.SliceLemmas.{has_numbers}
use Rattle.tuple_index.specs.Plan.{are_values, is_negative, is_value, negative_count, plan_of, tuple_cells, value_given}
use Rattle.shared_marks.proofs.OwnTupleLemmas.{negatives_listed, sign_of}
use Rattle.definitions.proofs.NamedPairs.{length-cells_of}

-- the parameters and the values of pairs
abbrev pub params : List (ℕ × ℕ) → List ℕ
params pairs = map (λ pair. pair.0) pairs

abbrev pub values : List (ℕ × ℕ) → List ℕ
values pairs = map (λ pair. pair.1) pairs

pair_given : (n : ℕ) (pairs : List (ℕ × ℕ)) (p : ℕ) → p < n → get_or (cells_of n pairs) p None ≡ value_given (params pairs) (values pairs) p
pair_given n [] p within = none_at n p
pair_given n (pair ∷ pairs) p within = elim (cases_eq pair.0 p) [
  | inl same ↦
      ap (λ q. get_or (cells_of n ((q, pair.1) ∷ pairs)) p None) same
      ∙ get_or-set_same (cells_of n pairs) p (Some pair.1) None (omega (arith, within, length-cells_of n pairs))
      ∙ sym (ap (λ b. cond b (Some pair.1) (value_given (params pairs) (values pairs) p)) (eq-eqb pair.0 p same))
  | inr apart ↦
      get_or-set_other (cells_of n pairs) pair.0 p (Some pair.1) None (λ same. apart (sym same)) ∙ pair_given n pairs p within
      ∙ sym (ap (λ b. cond b (Some pair.1) (value_given (params pairs) (values pairs) p)) (ne_eqb pair.0 p apart))
]

pub given_at : (m : ModelView) (set chosen : List ℕ) (p : ℕ) → p < length m.params → get_or (tuple_cells m set chosen) p None ≡ value_given set chosen p
given_at m set chosen p within = get_or-map-range_with_len (value_given set chosen) 0 (length m.params) p p None within (zero-add p)

-- the partial row of pairs is that of their values
pub cells_are : (m : ModelView) (pairs : List (ℕ × ℕ)) → cells_of (length m.params) pairs ≡ tuple_cells m (params pairs) (values pairs)
cells_are m pairs =
    let long = length-cells_of (length m.params) pairs in
    let size = length-map-range_with_len (value_given (params pairs) (values pairs)) 0 (length m.params) in
    same_lists (cells_of (length m.params) pairs) (tuple_cells m (params pairs) (values pairs)) (long ∙ sym size) (λ p other inside.
    let within : p < length m.params = omega (arith, inside, long) in
    get_or_default (cells_of (length m.params) pairs) p other None inside ∙ pair_given (length m.params) pairs p within
    ∙ sym (given_at m (params pairs) (values pairs) p within)
    ∙ get_or_default (tuple_cells m (params pairs) (values pairs)) p None other (omega (arith, within, size)))

assigned_among : (pairs : List (ℕ × ℕ)) (p : ℕ) → is_some (value_given (params pairs) (values pairs) p) ≡ is_among (params pairs) p
assigned_among [] p = refl
assigned_among (pair ∷ pairs) p = by_test (pair.0 == p) (assigned_among pairs p)
  where
    by_test : (b : Bool) → is_some (value_given (params pairs) (values pairs) p) ≡ is_among (params pairs) p
        → is_some (cond b (Some pair.1) (value_given (params pairs) (values pairs) p)) ≡ (b || is_among (params pairs) p)
    by_test true later = refl
    by_test false later = later

pub assigned_is : (n : ℕ) (pairs : List (ℕ × ℕ)) (p : ℕ) → p < n → is_some (get_or (cells_of n pairs) p None) ≡ is_among (params pairs) p
assigned_is n pairs p within = ap is_some (pair_given n pairs p within) ∙ assigned_among pairs p

-- the negative values of a plan are those of the model
negative_is : (m : ModelView) (p v : ℕ) → p < length m.params → v < length (param_at m.params p).values
    → is_negative (plan_of m) p v ≡ (value_at m p v).negative
negative_is m p v within exists =
    ap (λ ns. is_among ns v) (negatives_listed m p within)
    ∙ same_answer (is_among (negative_values m p) v) (value_at m p v).negative
    (λ listed. (of_filter (λ w. (value_at m p w).negative) (value_numbers m p) v (of_among (negative_values m p) v listed)).1)
    (λ negative. among_has (negative_values m p) v (has_filter (λ w. (value_at m p w).negative) (value_numbers m p) v (has_numbers m p v exists) negative))

-- each pair is one of the model
abbrev pub ArePairs : ModelView → List (ℕ × ℕ) → Type 0
ArePairs m pairs = (pair : ℕ × ℕ) → Has pairs pair → (pair.0 < length m.params) × (pair.1 < length (param_at m.params pair.0).values)

pub values_exist : (m : ModelView) (pairs : List (ℕ × ℕ)) → ArePairs m pairs → are_values (plan_of m) (params pairs) (values pairs) ≡ true
values_exist m [] each = refl
values_exist m (pair ∷ pairs) each =
    and_from (is_value (plan_of m) pair.0 pair.1) (are_values (plan_of m) (params pairs) (values pairs))
    (sign_of m pair.0 pair.1 (each pair (inl refl)).0 (each pair (inl refl)).1) (values_exist m pairs (λ other has. each other (inr has)))

pub negatives_counted : (m : ModelView) (pairs : List (ℕ × ℕ)) → ArePairs m pairs
    → negative_count (plan_of m) (params pairs) (values pairs) ≡ count_by (λ pair. (value_at m pair.0 pair.1).negative) pairs
negatives_counted m [] each = refl
negatives_counted m (pair ∷ pairs) each =
    ap (λ b. cond b 1 0 + negative_count (plan_of m) (params pairs) (values pairs))
    (negative_is m pair.0 pair.1 (each pair (inl refl)).0 (each pair (inl refl)).1)
    ∙ ap (λ n. cond (value_at m pair.0 pair.1).negative 1 0 + n) (negatives_counted m pairs (λ other has. each other (inr has)))
    ∙ sym (sum_by-cons (λ pair. cond (value_at m pair.0 pair.1).negative 1 0) pair pairs)
