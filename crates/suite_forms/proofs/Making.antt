-- Lists that are made element by element, and what stands at a place of them.
use Rattle.std.proofs.Common.{◌≡◌, ℕ, ◌+◌, ◌<◌, List, [], ◌∷◌, ◌++◌, map, length, get_or, take, sym, ap, ◌∙◌, arith, zero-add}
use Rattle.std.proofs.lemmas.List.{take_more, get_or-map, length-map}
use Rattle.std.proofs.lemmas.List.FromFn.{length-range_with_len, get_or-range_with_len}
use Rattle.cov_model.specs.believed.Sound.{ModelView}
use Rattle.cov_model.specs.believed.Valid.{param_numbers}

-- one more element
pub made_more : {X Y : Type 0} (f : X → Y) (xs : List X) (ys : List Y) (at : ℕ) (d : X) (y : Y) → at < length xs
    → ys ≡ take at (map f xs) → y ≡ f (get_or xs at d) → ys ++ y ∷ [] ≡ take (at + 1) (map f xs)
made_more f xs ys at d y inside so_far is =
    let within : at < length (map f xs) = omega (arith, length-map xs f) in
    ap (λ zs. zs ++ y ∷ []) so_far ∙ ap (λ z. take at (map f xs) ++ z ∷ []) (is ∙ sym (get_or-map f xs at d y inside)) ∙ sym (take_more (map f xs) at y within)

-- a list with an element for each parameter
pub number_at : (m : ModelView) (at d : ℕ) → at < length m.params → get_or (param_numbers m) at d ≡ at
number_at m at d inside = get_or-range_with_len 0 (length m.params) at d inside ∙ zero-add at

pub numbers_count : (m : ModelView) → length (param_numbers m) ≡ length m.params
numbers_count m = length-range_with_len 0 (length m.params)

pub at_param : {Y : Type 0} (f : ℕ → Y) (m : ModelView) (at : ℕ) (d : Y) → at < length m.params → get_or (map f (param_numbers m)) at d ≡ f at
at_param f m at d inside = get_or-map f (param_numbers m) at 0 d (omega (arith, numbers_count m)) ∙ ap f (number_at m at 0 inside)

pub made_param : {Y : Type 0} (f : ℕ → Y) (m : ModelView) (ys : List Y) (at : ℕ) (y : Y) → at < length m.params
    → ys ≡ take at (map f (param_numbers m)) → y ≡ f at → ys ++ y ∷ [] ≡ take (at + 1) (map f (param_numbers m))
made_param f m ys at y inside so_far is =
    made_more f (param_numbers m) ys at 0 y (omega (arith, numbers_count m)) so_far (is ∙ ap f (sym (number_at m at 0 inside)))

pub count_of_params : {Y : Type 0} (f : ℕ → Y) (m : ModelView) → length (map f (param_numbers m)) ≡ length m.params
count_of_params f m = length-map (param_numbers m) f ∙ numbers_count m
