-- The preference order of a parameter lists each of its values once.
use Rattle.std.proofs.Common.{◌≡◌, ℕ, zero, suc, ◌+◌, ◌-◌, ◌<◌, ◌≤◌, ◌%◌, Bool, true, false, if◌then◌else◌, List, [], ◌∷◌, length}
use Rattle.std.proofs.Common.{get_or, nat_le, All, IsPermutation, Option, None, Some, ap, refl, arith}
use Rattle.std.specs.List.{swap}
use Rattle.std.proofs.lemmas.List.Elements.{All-from_get_or}
use Rattle.std.proofs.lemmas.List.FromFn.{length-range_with_len, get_or-range_with_len}
use Rattle.std.proofs.lemmas.List.Sorted.{IsPermutation-refl, IsPermutation-cons, IsPermutation-middle, IsPermutation-swap, IsPermutation-trans, All-permutation, length_permutation}
use Rattle.rand_pcg.specs.Lcg.{Lcg}
use Rattle.rand_pcg.specs.Pcg.{pcg32}
use Rattle.cov_model.specs.declared.parameter.Param.{Param}
use Rattle.cov_model.specs.declared.parameter.Value.{Value}
use Rattle.cov_model.specs.believed.Sound.{ModelView, param_at}
use Rattle.cov_model.specs.believed.Preference.{shuffled_to, shuffled, insert_by_weight, by_falling_weight, weight_in, declared_order, preferred, preferences, generator_of, preference}
use Rattle.cov_model.specs.Preference.{OrdersValues}

IsPermutation-shuffled_to : (n : ℕ) (values : List ℕ) (generator : Lcg) → n ≤ length values - 1 → IsPermutation values (shuffled_to n values generator).0
IsPermutation-shuffled_to zero values generator within = IsPermutation-refl values
IsPermutation-shuffled_to (suc i) values generator within =
    let word = (pcg32 generator).0 in
    let swapped = swap values (i + 1) (word % (i + 2)) in
    let low : word % (i + 2) < i + 2 = omega arith in
    let step : IsPermutation values swapped =
    IsPermutation-swap values swapped (i + 1) (word % (i + 2)) (omega arith) (omega arith) refl in
    let long = length_permutation values swapped step in
    IsPermutation-trans values swapped (shuffled_to i swapped (pcg32 generator).1).0 step
    (IsPermutation-shuffled_to i swapped (pcg32 generator).1 (omega arith))

IsPermutation-insert_by_weight : (weight : ℕ → ℕ) (v : ℕ) (ys : List ℕ) → IsPermutation (v ∷ ys) (insert_by_weight weight v ys)
IsPermutation-insert_by_weight weight v [] = IsPermutation-refl (v ∷ [])
IsPermutation-insert_by_weight weight v (w ∷ rest) =
    either (nat_le (weight w) (weight v)) (insert_by_weight weight v rest) (IsPermutation-insert_by_weight weight v rest)
  where
    either : (b : Bool) (inserted : List ℕ) → IsPermutation (v ∷ rest) inserted → IsPermutation (v ∷ w ∷ rest) (if b then v ∷ w ∷ rest else w ∷ inserted)
    either true inserted later = IsPermutation-refl (v ∷ w ∷ rest)
    either false inserted later =
        IsPermutation-trans (v ∷ w ∷ rest) (w ∷ v ∷ rest) (w ∷ inserted) (IsPermutation-middle (v ∷ []) w rest) (IsPermutation-cons w (v ∷ rest) inserted later)

IsPermutation-by_falling_weight : (weight : ℕ → ℕ) (xs : List ℕ) → IsPermutation xs (by_falling_weight weight xs)
IsPermutation-by_falling_weight weight [] = IsPermutation-refl []
IsPermutation-by_falling_weight weight (v ∷ rest) =
    IsPermutation-trans (v ∷ rest) (v ∷ by_falling_weight weight rest) (by_falling_weight weight (v ∷ rest))
    (IsPermutation-cons v rest (by_falling_weight weight rest) (IsPermutation-by_falling_weight weight rest))
    (IsPermutation-insert_by_weight weight v (by_falling_weight weight rest))

IsPermutation-preferred : (values : List Value) (generator : Option Lcg) → IsPermutation (declared_order values) (preferred values generator).0
IsPermutation-preferred values None = IsPermutation-by_falling_weight (weight_in values) (declared_order values)
IsPermutation-preferred values (Some generator) =
    let drawn = shuffled (declared_order values) generator in
    IsPermutation-trans (declared_order values) drawn.0 (by_falling_weight (weight_in values) drawn.0)
    (IsPermutation-shuffled_to (length (declared_order values) - 1) (declared_order values) generator (omega arith))
    (IsPermutation-by_falling_weight (weight_in values) drawn.0)

length-preferences : (params : List Param) (generator : Option Lcg) → length (preferences params generator) ≡ length params
length-preferences [] generator = refl
length-preferences (param ∷ rest) generator = ap suc (length-preferences rest (preferred param.values generator).1)

IsPermutation-preferences : (params : List Param) (generator : Option Lcg) (p : ℕ) → p < length params
    → IsPermutation (declared_order (param_at params p).values) (get_or (preferences params generator) p [])
IsPermutation-preferences [] generator p within = absurd (omega arith)
IsPermutation-preferences (param ∷ rest) generator zero within = IsPermutation-preferred param.values generator
IsPermutation-preferences (param ∷ rest) generator (suc p) within =
    IsPermutation-preferences rest (preferred param.values generator).1 p (omega arith)

declared_order-exist : (values : List Value) → All (λ v. v < length values) (declared_order values)
declared_order-exist values =
    All-from_get_or (λ v. v < length values) (declared_order values) 0 (λ i within.
    let count = length-range_with_len 0 (length values) in
    let place = get_or-range_with_len 0 (length values) i 0 (omega arith) in
    omega arith)

pub OrdersValues-preference : (m : ModelView) (shuffle : Option ℕ) → OrdersValues m (preference m shuffle)
OrdersValues-preference m shuffle = record {
  as_many = length-preferences m.params (generator_of shuffle);
  each = IsPermutation-preferences m.params (generator_of shuffle);
  exist = λ p within.
      All-permutation (λ v. v < length (param_at m.params p).values) (declared_order (param_at m.params p).values)
      (get_or (preferences m.params (generator_of shuffle)) p []) (IsPermutation-preferences m.params (generator_of shuffle) p within)
      (declared_order-exist (param_at m.params p).values);
}
