-- Gains of values in a row.
use Rattle.std.proofs.Common.{◌≡◌, ℕ, ◌+◌, ◌<◌, ◌≤◌, List, length, get_or, map, ◌∙◌, refl, sym, arith}
use Rattle.std.specs.List.{range_with_len}
use Rattle.std.proofs.lemmas.List.{ext_get_or}
use Rattle.std.proofs.lemmas.List.Elements.{All-get_or}
use Rattle.std.proofs.lemmas.List.FromFn.{get_or-map-range_with_len, length-map-range_with_len}
use Rattle.cov_model.specs.believed.Sound.{IsSound, IsSoundParam, ModelView, no_param, param_at}

pub values_few : (m : ModelView) (p : ℕ) → IsSound m → p < length m.params → length (param_at m.params p).values ≤ 4095
values_few m p sound within = (All-get_or (IsSoundParam m.prefix m.fold) m.params p no_param within sound.params).few

pub scores_are : (g : ℕ → ℕ) (from n : ℕ) (scores : List ℕ) → length scores ≡ n → ((i : ℕ) → i < n → get_or scores i 0 ≡ g (from + i))
    → scores ≡ map g (range_with_len from n)
scores_are g from n scores long each =
    ext_get_or 0 scores (map g (range_with_len from n)) (long ∙ sym (length-map-range_with_len g from n))
    (λ i within.
    let inside : i < n = omega (arith, within, long) in
    each i inside ∙ sym (get_or-map-range_with_len g from n i (from + i) 0 inside refl))
