-- The place of a cell among those of a line.
use Rattle.std.proofs.Common.{◌≡◌, ◌+◌, Bool, cond, not, List, [], ◌∷◌, map, Some, None, position, nat_lt, refl, ap, ap₂, sym}
use Rattle.std.specs.List.{position_or_len}
use Rattle.std.proofs.lemmas.List.{length-map}

place_map : {X Y : Type 0} (f : X → Y) (p : Y → Bool) (xs : List X) → position_or_len (λ x. p (f x)) xs ≡ position_or_len p (map f xs)
place_map f p [] = refl
place_map f p (x ∷ xs) = ap (λ place. cond (not (p (f x))) (1 + place) 0) (place_map f p xs)

-- it is looked for in the texts themselves
pub position_map : {X Y : Type 0} (f : X → Y) (p : Y → Bool) (xs : List X) → position (λ x. p (f x)) xs ≡ position p (map f xs)
position_map f p xs = ap₂ (λ place count. cond (nat_lt place count) (Some place) None) (place_map f p xs) (sym (length-map xs f))
