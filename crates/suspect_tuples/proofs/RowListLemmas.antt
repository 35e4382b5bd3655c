-- The steps of loops over rows.
use Rattle.std.proofs.Common.{◌≡◌, ℕ, ◌+◌, ◌<◌, Bool, true, false, cond, List, [], ◌∷◌, ◌++◌, map, filter, take, length, get_or, refl, sym, ap, ◌∙◌}
use Rattle.std.proofs.lemmas.List.{map-append, take_more}
use Rattle.std.proofs.lemmas.List.Elements.{filter-append}

-- one item more is kept, or isn't
kept_one : {X Y : Type 0} (g : X → Y) (f : X → Bool) (x : X) → map g (filter f (x ∷ [])) ≡ cond (f x) (g x ∷ []) []
kept_one g f x = at (f x)
  where
    at : (b : Bool) → map g (cond b (x ∷ []) []) ≡ cond b (g x ∷ []) []
    at true = refl
    at false = refl

pub kept_more : {X Y : Type 0} (g : X → Y) (f : X → Bool) (xs : List X) (i : ℕ) (d x : X) (kept more : List Y) → i < length xs → x ≡ get_or xs i d
    → kept ≡ map g (filter f (take i xs)) → more ≡ kept ++ cond (f x) (g x ∷ []) [] → more ≡ map g (filter f (take (i + 1) xs))
kept_more g f xs i d x kept more within read so_far added =
    let split : filter f (take (i + 1) xs) ≡ filter f (take i xs) ++ filter f (x ∷ []) =
    ap (filter f) (take_more xs i d within) ∙ filter-append f (take i xs) (get_or xs i d ∷ []) ∙ ap (λ y. filter f (take i xs) ++ filter f (y ∷ [])) (sym read) in
    added ∙ ap (λ ys. ys ++ cond (f x) (g x ∷ []) []) so_far ∙ ap (λ ys. map g (filter f (take i xs)) ++ ys) (sym (kept_one g f x))
    ∙ sym (map-append g (filter f (take i xs)) (filter f (x ∷ []))) ∙ ap (map g) (sym split)
