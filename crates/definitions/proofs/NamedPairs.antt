-- The pairs of an omission stand in its partial row, so where its tuple is a demanded one they exist in the model.
use Rattle.std.proofs.Common.{◌≡◌, ℕ, ◌<◌, List, [], ◌∷◌, length, get_or, Option, Some, None, is_some, unwrap_or, inl, inr, ◌∙◌, sym, ap, subst, arith, zero-add}
use Rattle.std.proofs.lemmas.Bool.{false≢true}
use Rattle.std.proofs.lemmas.List.{get_or-set_same, get_or-set_other, get_or-replicate}
use Rattle.cov_model.specs.believed.Sound.{ModelView, IsSound, param_at}
use Rattle.cov_model.specs.believed.Slices.{slice_of}
use Rattle.cov_model.specs.Tuples.{IsRising}
use Rattle.cov_model.specs.believed.Tuples.{cells_of}
use Rattle.cov_model.proofs.CellLemmas.{length-slice_values}
pub use Rattle.cov_model.proofs.TupleLemmas.{behind_first, length-cells_of}
use Rattle.definitions.specs.believed.Demand.{is_among}
use Rattle.definitions.proofs.Members.{Has}
use Rattle.definitions.proofs.SliceLemmas.{slice_of_is, value_exists}
use Rattle.definitions.proofs.Demanded.{demanded_has}
use Rattle.definitions.proofs.InPlay.{tuple_is}
use Rattle.definitions.proofs.Grown.{IsDemanded}

-- the parameters behind the first are above it
above_first : (first : ℕ × ℕ) (pairs : List (ℕ × ℕ)) (pair : ℕ × ℕ) → IsRising (first ∷ pairs) → Has pairs pair → first.0 < pair.0
above_first first [] pair rises has = absurd has
above_first first (next ∷ pairs) pair rises (inl same) = subst (λ p. first.0 < p.0) same rises.0
above_first first (next ∷ pairs) pair rises (inr has) = let later = above_first next pairs pair rises.1 has in omega (arith, rises.0, later)

-- rising pairs each give their cell its value
pub pair_stands : (n : ℕ) (pairs : List (ℕ × ℕ)) (pair : ℕ × ℕ) → IsRising pairs → pair.0 < n → Has pairs pair
    → get_or (cells_of n pairs) pair.0 None ≡ Some pair.1
pair_stands n [] pair rises within has = absurd has
pair_stands n (first ∷ pairs) pair rises within (inl same) =
    let inside : first.0 < length (cells_of n pairs) = omega (arith, within, ap (λ (p : ℕ × ℕ). p.0) same, length-cells_of n pairs) in
    subst (λ p. get_or (cells_of n (first ∷ pairs)) p.0 None ≡ Some p.1) same (get_or-set_same (cells_of n pairs) first.0 (Some first.1) None inside)
pair_stands n (first ∷ pairs) pair rises within (inr has) =
    let above = above_first first pairs pair rises has in
    get_or-set_other (cells_of n pairs) first.0 pair.0 (Some first.1) None (λ same. absurd (omega (arith, above, same)))
    ∙ pair_stands n pairs pair (behind_first first pairs rises) within has

-- a value of a demanded tuple exists
demanded_exists : (m : ModelView) (tuple : List (Option ℕ)) (p v : ℕ) → IsDemanded m tuple → p < length m.params → get_or tuple p None ≡ Some v
    → v < length (param_at m.params p).values
demanded_exists m tuple p v is within stands =
    let own = slice_of_is m tuple in
    let listed = (tuple_is m is.set (slice_of m tuple) tuple own is.has).belongs.values p within (ap is_some stands) in
    let exists = value_exists m (slice_of m tuple) p (unwrap_or (get_or tuple p None) 0) own within listed in
    subst (λ cell. unwrap_or cell 0 < length (param_at m.params p).values) stands exists

pub pair_exists : (m : ModelView) (pairs : List (ℕ × ℕ)) (pair : ℕ × ℕ) → IsRising pairs → IsDemanded m (cells_of (length m.params) pairs)
    → pair.0 < length m.params → Has pairs pair → pair.1 < length (param_at m.params pair.0).values
pair_exists m pairs pair rises is within has =
    demanded_exists m (cells_of (length m.params) pairs) pair.0 pair.1 is within (pair_stands (length m.params) pairs pair rises within has)

-- a demanded tuple has a pair
pub demanded_some : (m : ModelView) (pairs : List (ℕ × ℕ)) → IsSound m → IsDemanded m (cells_of (length m.params) pairs) → 0 < length pairs
demanded_some m (pair ∷ pairs) sound is = omega arith
demanded_some m [] sound is =
    let own = demanded_has m is.set sound is.demanded in
    let tuple = cells_of (length m.params) [] in
    let choice = (tuple_is m is.set (slice_of m tuple) tuple (slice_of_is m tuple) is.has).choice in
    let given = choice.given own.0 (omega (arith, own.1, length-slice_values m (slice_of m tuple))) in
    absurd (false≢true (sym (ap is_some (get_or-replicate (length m.params) own.0 None None own.1)) ∙ given ∙ ap (is_among is.set) (zero-add own.0) ∙ own.2))
