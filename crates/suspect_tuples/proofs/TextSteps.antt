-- Texts of pairs and of lists, piece by piece.
use Rattle.std.proofs.Common.{◌≡◌, ℕ, ◌+◌, ◌-◌, ◌<◌, ◌≤◌, List, [], ◌∷◌, ◌++◌, take, drop, length, get_or, ◌∙◌, sym, ap, arith}
use Rattle.std.specs.List.{flat_map}
use Rattle.std.proofs.lemmas.List.{append-nil, take_all, take_more}
use Rattle.std.proofs.lemmas.List.Concat.{flat_map-append}
use Rattle.definitions.specs.believed.Pairs.{pair_text, pairs_text}

-- the pieces of one item more
pub pieces_more : {X : Type 0} (f : X → List ℕ) (xs : List X) (i : ℕ) (d : X) (piece : List ℕ) → i < length xs → piece ≡ f (get_or xs i d)
    → flat_map f (take i xs) ++ piece ≡ flat_map f (take (i + 1) xs)
pieces_more f xs i d piece within is =
    sym (ap (flat_map f) (take_more xs i d within) ∙ flat_map-append f (take i xs) (get_or xs i d ∷ [])
    ∙ ap (λ ys. flat_map f (take i xs) ++ ys) (append-nil (f (get_or xs i d)) ∙ sym is))

-- pairs parted by spaces are the first, and the others each behind a space
parted : (first : ℕ × ℕ) (rest : List (ℕ × ℕ)) → pair_text first ++ flat_map (λ pair. 32 ∷ pair_text pair) rest ≡ pairs_text (first ∷ rest)
parted first [] = append-nil (pair_text first)
parted first (next ∷ rest) = ap (λ text. pair_text first ++ (32 ∷ text)) (parted next rest)

pub pairs_parted : (pairs : List (ℕ × ℕ)) → 1 ≤ length pairs
    → pair_text (get_or pairs 0 (0, 0)) ++ flat_map (λ pair. 32 ∷ pair_text pair) (take (length pairs - 1) (drop 1 pairs)) ≡ pairs_text pairs
pairs_parted [] some = absurd (omega (arith, some))
pairs_parted (first ∷ rest) some =
    ap (λ pairs. pair_text first ++ flat_map (λ pair. 32 ∷ pair_text pair) pairs) (take_all (length (first ∷ rest) - 1) rest (omega arith)) ∙ parted first rest
