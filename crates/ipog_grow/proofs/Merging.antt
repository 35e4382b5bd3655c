-- Two rising lists as one.
use Rattle.std.proofs.Common.{◌≡◌, ℕ, ◌+◌, ◌<◌, Bool, true, false, cond, ◌||◌, List, [], ◌∷◌, nat_eq, nat_lt, ◌∙◌, sym, ap, subst, refl, arith}
use Rattle.std.proofs.lemmas.Bool.Decides.{nat_tests}
use Rattle.std.proofs.Math.Bool.{or_assoc, or-false}
use Rattle.definitions.specs.believed.Demand.{is_among}
use Rattle.tuple_index.specs.Places.{RisesFrom}
use Rattle.ipog_grow.specs.UnfilledRows.{merged}

-- the two lists by their first numbers
abbrev step : (less more : Bool) (i : ℕ) (numbers : List ℕ) (j : ℕ) (others : List ℕ) → List ℕ
step less more i numbers j others =
    cond less (i ∷ merged numbers (j ∷ others)) (cond more (j ∷ merged (i ∷ numbers) others) (i ∷ merged numbers others))

pub merged-rises : (lo hi : ℕ) (numbers others : List ℕ) → RisesFrom lo hi numbers → RisesFrom lo hi others → RisesFrom lo hi (merged numbers others)
merged-rises lo hi [] others rises rest = rest
merged-rises lo hi (i ∷ numbers) [] rises rest = rises
merged-rises lo hi (i ∷ numbers) (j ∷ others) rises rest =
    by_tests (nat_lt i j) (nat_lt j i) refl refl (merged-rises (i + 1) hi numbers (j ∷ others) rises.2)
    (λ first. merged-rises (j + 1) hi (i ∷ numbers) others first rest.2) (merged-rises (i + 1) hi numbers others rises.2)
  where
    by_tests : (less more : Bool) → nat_lt i j ≡ less → nat_lt j i ≡ more
        → (RisesFrom (i + 1) hi (j ∷ others) → RisesFrom (i + 1) hi (merged numbers (j ∷ others)))
        → (RisesFrom (j + 1) hi (i ∷ numbers) → RisesFrom (j + 1) hi (merged (i ∷ numbers) others))
        → (RisesFrom (i + 1) hi others → RisesFrom (i + 1) hi (merged numbers others)) → RisesFrom lo hi (step less more i numbers j others)
    by_tests true more is _ first second both =
        let below : i < j = grind (arith, nat_tests) in (rises.0, rises.1, first (omega arith, rest.1, rest.2))
    by_tests false true _ is first second both =
        let below : j < i = grind (arith, nat_tests) in (rest.0, rest.1, second (omega arith, rises.1, rises.2))
    by_tests false false is other first second both =
        let same : j ≡ i = grind (arith, nat_tests) in
        (rises.0, rises.1, both (subst (λ n. RisesFrom (n + 1) hi others) same rest.2))

pub merged-among : (numbers others : List ℕ) (m : ℕ) → is_among (merged numbers others) m ≡ (is_among numbers m || is_among others m)
merged-among [] others m = refl
merged-among (i ∷ numbers) [] m = sym (or-false (is_among (i ∷ numbers) m))
merged-among (i ∷ numbers) (j ∷ others) m =
    by_tests (nat_lt i j) (nat_lt j i) refl refl (merged-among numbers (j ∷ others) m) (merged-among (i ∷ numbers) others m) (merged-among numbers others m)
  where
    swap : (a b c d : Bool) → (a || ((b || c) || d)) ≡ ((b || c) || (a || d))
    swap true true c d = refl
    swap true false true d = refl
    swap true false false d = refl
    swap false b c d = refl

    both_of : (a b c : Bool) → (a || (b || c)) ≡ ((a || b) || (a || c))
    both_of true b c = refl
    both_of false b c = refl

    by_tests : (less more : Bool) → nat_lt i j ≡ less → nat_lt j i ≡ more
        → is_among (merged numbers (j ∷ others)) m ≡ (is_among numbers m || is_among (j ∷ others) m)
        → is_among (merged (i ∷ numbers) others) m ≡ (is_among (i ∷ numbers) m || is_among others m)
        → is_among (merged numbers others) m ≡ (is_among numbers m || is_among others m)
        → is_among (step less more i numbers j others) m ≡ (is_among (i ∷ numbers) m || is_among (j ∷ others) m)
    by_tests true more is _ first second both =
        ap (λ (b : Bool). nat_eq i m || b) first ∙ sym (or_assoc (nat_eq i m) (is_among numbers m) (is_among (j ∷ others) m))
    by_tests false true _ is first second both =
        ap (λ (b : Bool). nat_eq j m || b) second ∙ swap (nat_eq j m) (nat_eq i m) (is_among numbers m) (is_among others m)
    by_tests false false is other first second both =
        let same : i ≡ j = grind (arith, nat_tests) in
        ap (λ (b : Bool). nat_eq i m || b) both ∙ both_of (nat_eq i m) (is_among numbers m) (is_among others m)
        ∙ ap (λ (n : ℕ). (nat_eq i m || is_among numbers m) || (nat_eq n m || is_among others m)) same
