-- Which slice a partial row with at most one negative value is of.
use Rattle.std.proofs.Common.{◌≡◌, All, ℕ, ◌+◌, ◌<◌, ◌++◌, Bool, true, false, ◌&&◌, ◌||◌, List, [], ◌∷◌, length, take, get_or, filter, Option, nat_le, ◌∙◌, sym, ap, refl, arith}
use Rattle.std.specs.Prelude.{◌==◌}
use Rattle.std.proofs.lemmas.Bool.Decides.{Decides-eqb}
use Rattle.std.proofs.lemmas.List.{take_more}
use Rattle.std.proofs.lemmas.List.Elements.{filter-append, All-filter, All-take, All-weaker}
use Rattle.std.proofs.lemmas.Bool.{leb-true}
use Rattle.cov_model.specs.contracts.slice.SlicePartialEq as equal
use Rattle.cov_model.specs.declared.slice.Slice.{Slice}
use Rattle.cov_model.specs.declared.slice.Slice.TheVariants.{Positive, Negative}
use Rattle.cov_model.specs.Fits.{FitsModel}
use Rattle.cov_model.specs.believed.Sound.{ModelView}
use Rattle.cov_model.specs.believed.Rows.{value_in}
use Rattle.cov_model.specs.believed.Valid.{negatives}
use Rattle.cov_model.specs.believed.Slices.{slice_of, slice_by}
use Rattle.definitions.specs.believed.Demand.{is_among}
use Rattle.definitions.specs.believed.Completion.{has_slice}
use Rattle.definitions.specs.believed.Growth.{is_of_slice}

-- the slice is this one exactly if the partial row is of it
pub slice_of-test : (m : ModelView) (slice : Slice) (cells : List (Option ℕ)) → has_slice m cells ≡ true → equal.TheImpl.eq-value.it (slice_of m cells) slice
    ≡ is_of_slice m slice cells
slice_of-test m Positive cells few = at (negatives m cells) few
  where
    at : (ps : List ℕ) → nat_le (length ps) 1 ≡ true → equal.TheImpl.eq-value.it (slice_by cells ps) Positive ≡ (length ps == 0)
    at [] few = refl
    at (p ∷ []) few = refl
    at (p ∷ r ∷ ps) few = absurd (omega (arith, leb-true (length (p ∷ r ∷ ps)) 1 few))
slice_of-test m (Negative q v) cells few = at (negatives m cells) few
  where
    one : (b x y : Bool) → (b ≡ true → x ≡ y) → (b && x) ≡ ((b || false) && y)
    one true x y same = same refl
    one false x y same = refl

    at : (ps : List ℕ) → nat_le (length ps) 1 ≡ true → equal.TheImpl.eq-value.it (slice_by cells ps) (Negative q v) ≡ (is_among ps q && (value_in cells q == v))
    at [] few = refl
    at (p ∷ []) few = one (p == q) (value_in cells p == v) (value_in cells q == v) (λ e. ap (λ r. value_in cells r == v) ((Decides-eqb p q).0 e))
    at (p ∷ r ∷ ps) few = absurd (omega (arith, leb-true (length (p ∷ r ∷ ps)) 1 few))

-- one more item, where it passes
pub filter-more : {X : Type 0} (p : X → Bool) (xs : List X) (i : ℕ) (d : X) → i < length xs → filter p (take (i + 1) xs) ≡ filter p (take i xs)
    ++ filter p (get_or xs i d ∷ [])
filter-more p xs i d within = ap (filter p) (take_more xs i d within) ∙ filter-append p (take i xs) (get_or xs i d ∷ [])

-- each of the seeds of a slice is as long as any partial row of the model
pub seeds-long : (m : ModelView) (slice : Slice) (rows : List (List (Option ℕ))) (i : ℕ) (row : List (Option ℕ)) → All (FitsModel m) rows → length row ≡ length m.params
    → All (λ other. length other ≡ length row) (filter (is_of_slice m slice) (take i rows))
seeds-long m slice rows i row fit long =
    All-filter (is_of_slice m slice) (λ other. length other ≡ length row) (take i rows)
    (All-take (λ (other : List (Option ℕ)). length other ≡ length row) i rows
    (All-weaker (FitsModel m) (λ (other : List (Option ℕ)). length other ≡ length row) (λ other fits. fits.as_long ∙ sym long) rows fit))
