-- The pairs of a partial row: one place after another, that their parameters rise, and that they give it again.
use Rattle.std.proofs.Common.{◌≡◌, ℕ, zero, suc, set, replicate, zero-add, sym, ◌+◌, ◌<◌, ◌≤◌, List, [], ◌∷◌}
use Rattle.std.proofs.Common.{◌++◌, take, length, get_or, Option, Some, None, ◌∙◌, ap, refl, inl, inr, arith}
use Rattle.std.proofs.lemmas.List.{take_more, length-take-le, replicate_more, append_assoc, append-nil}
use Rattle.cov_model.specs.Tuples.{IsRising}
use Rattle.cov_model.specs.believed.Tuples.{cells_of}
use Rattle.definitions.specs.believed.Pairs.{pairs_from, pairs_of}
use Rattle.definitions.proofs.Members.{Has}

-- the pair of a cell, where it has a value
abbrev pub pair_at : ℕ → Option ℕ → List (ℕ × ℕ)
pair_at p None = []
pair_at p (Some v) = (p, v) ∷ []

pairs_from-push : (p q : ℕ) (cells : List (Option ℕ)) (cell : Option ℕ) → p + length cells ≡ q → pairs_from p (cells ++ cell ∷ []) ≡ pairs_from p cells
    ++ pair_at q cell
pairs_from-push p q [] None at = refl
pairs_from-push p q [] (Some v) at = let same : p ≡ q = omega (arith, at) in ap (λ k. (k, v) ∷ []) same
pairs_from-push p q (None ∷ cells) cell at = pairs_from-push (p + 1) q cells cell (omega (arith, at))
pairs_from-push p q (Some v ∷ cells) cell at = ap (λ pairs. (p, v) ∷ pairs) (pairs_from-push (p + 1) q cells cell (omega (arith, at)))

pub pairs_of-more : (cells : List (Option ℕ)) (p : ℕ) → p < length cells → pairs_of (take (p + 1) cells) ≡ pairs_of (take p cells)
    ++ pair_at p (get_or cells p None)
pairs_of-more cells p within =
    ap pairs_of (take_more cells p None within)
    ∙ pairs_from-push 0 p (take p cells) (get_or cells p None) (omega (arith, length-take-le p cells (omega (arith, within))))

-- the parameters of the pairs rise from this number on
abbrev RisesFrom : ℕ → List (ℕ × ℕ) → Type 0
RisesFrom k [] = Unit {0}
RisesFrom k (pair ∷ pairs) = (k ≤ pair.0) × RisesFrom (pair.0 + 1) pairs

rises_from : (k p : ℕ) (cells : List (Option ℕ)) → k ≤ p → RisesFrom k (pairs_from p cells)
rises_from k p [] low = tt
rises_from k p (None ∷ cells) low = rises_from k (p + 1) cells (omega (arith, low))
rises_from k p (Some v ∷ cells) low = (low, rises_from (p + 1) (p + 1) cells (omega arith))

rising : (k : ℕ) (pairs : List (ℕ × ℕ)) → RisesFrom k pairs → IsRising pairs
rising k [] rises = tt
rising k (a ∷ []) rises = tt
rising k (a ∷ b ∷ pairs) rises = (omega (arith, rises.1.0), rising (a.0 + 1) (b ∷ pairs) rises.1)

pub pairs_of-rise : (cells : List (Option ℕ)) → IsRising (pairs_of cells)
pairs_of-rise cells = rising 0 (pairs_of cells) (rises_from 0 0 cells (omega arith))

-- the pairs of a partial row give it again
none-more : (p : ℕ) (cells : List (Option ℕ)) → replicate (p + 1) None ++ cells ≡ replicate p None ++ None ∷ cells
none-more p cells = ap (λ front. front ++ cells) (sym (replicate_more p None)) ∙ append_assoc (replicate p None) (None ∷ []) cells

set-behind : (p : ℕ) (cells : List (Option ℕ)) (v : ℕ) → set (replicate p None ++ None ∷ cells) p (Some v) ≡ replicate p None ++ Some v ∷ cells
set-behind zero cells v = refl
set-behind (suc p) cells v = ap (λ rest. None ∷ rest) (set-behind p cells v)

cells_of-pairs_from : (n p : ℕ) (cells : List (Option ℕ)) → p + length cells ≡ n → cells_of n (pairs_from p cells) ≡ replicate p None ++ cells
cells_of-pairs_from n p [] long = let same : n ≡ p = omega (arith, long) in ap (λ k. replicate k None) same ∙ sym (append-nil (replicate p None))
cells_of-pairs_from n p (None ∷ cells) long = cells_of-pairs_from n (p + 1) cells (omega (arith, long)) ∙ none-more p cells
cells_of-pairs_from n p (Some v ∷ cells) long =
    ap (λ row. set row p (Some v)) (cells_of-pairs_from n (p + 1) cells (omega (arith, long)) ∙ none-more p cells) ∙ set-behind p cells v

pub cells_of-pairs_of : (cells : List (Option ℕ)) → cells_of (length cells) (pairs_of cells) ≡ cells
cells_of-pairs_of cells = cells_of-pairs_from (length cells) 0 cells (zero-add (length cells))

-- so pairs that are those of a partial row of n parameters do
pub cells_of-pairs : (n : ℕ) (cells : List (Option ℕ)) (pairs : List (ℕ × ℕ)) → length cells ≡ n → pairs ≡ pairs_of cells → cells_of n pairs ≡ cells
cells_of-pairs n cells pairs long are = ap (cells_of n) are ∙ ap (λ k. cells_of k (pairs_of cells)) (sym long) ∙ cells_of-pairs_of cells

-- and each of them is of one of its parameters
within : (p : ℕ) (cells : List (Option ℕ)) (pair : ℕ × ℕ) → Has (pairs_from p cells) pair → pair.0 < p + length cells
within p [] pair has = absurd has
within p (None ∷ cells) pair has = let later = within (p + 1) cells pair has in omega (arith, later)
within p (Some v ∷ cells) pair (inl is) = omega (arith, ap (λ (q : ℕ × ℕ). q.0) is)
within p (Some v ∷ cells) pair (inr has) = let later = within (p + 1) cells pair has in omega (arith, later)

pub pairs_of-within : (cells : List (Option ℕ)) (pair : ℕ × ℕ) → Has (pairs_of cells) pair → pair.0 < length cells
pairs_of-within cells pair has = let inside = within 0 cells pair has in omega (arith, inside)
