-- The tuples of a set are the choices of values of its members.
use Rattle.std.proofs.Common.{inl, inr, ◌≡◌, ℕ, zero, suc, ◌+◌, ◌<◌, ◌≤◌, false, List, [], ◌∷◌, ◌++◌, map, length, get_or, Option, Some, None, ◌∙◌, refl, sym, subst, ap, arith}
use Rattle.std.specs.Prelude.{◌==◌}
use Rattle.std.specs.List.{flat_map, range_with_len}
use Rattle.std.proofs.lemmas.Bool.{cases_eq, eq-eqb}
use Rattle.std.proofs.lemmas.Bool.Decides.{nat_tests}
use Rattle.std.proofs.lemmas.List.{map-append}
use Rattle.std.proofs.lemmas.Simd.{map-map}
use Rattle.definitions.specs.believed.Demand.{is_among, value_choices}
use Rattle.tuple_index.specs.Plan.{value_given}
use Rattle.tuple_index.specs.Places.{RisesFrom, value_lists}

-- two numbers as a test
pub apart_test : (p q : ℕ) → p < q → (p == q) ≡ false
apart_test p q below = grind (arith, nat_tests)

pub above_test : (p q : ℕ) → q < p → (p == q) ≡ false
above_test p q below = grind (arith, nat_tests)

-- functions that agree give the same list
pub map_same : {X Y : Type 0} (f g : X → Y) (xs : List X) → ((x : X) → f x ≡ g x) → map f xs ≡ map g xs
map_same f g [] same = refl
map_same f g (x ∷ xs) same = ap (λ y. y ∷ map f xs) (same x) ∙ ap (λ ys. g x ∷ ys) (map_same f g xs same)

pub flat_map_same : {X Y : Type 0} (f g : X → List Y) (xs : List X) → ((x : X) → f x ≡ g x) → flat_map f xs ≡ flat_map g xs
flat_map_same f g [] same = refl
flat_map_same f g (x ∷ xs) same = ap (λ y. y ++ flat_map f xs) (same x) ∙ ap (λ ys. g x ++ ys) (flat_map_same f g xs same)

pub map_flat_map : {X Y Z : Type 0} (f : Y → Z) (g : X → List Y) (xs : List X) → map f (flat_map g xs) ≡ flat_map (λ x. map f (g x)) xs
map_flat_map f g [] = refl
map_flat_map f g (x ∷ xs) = map-append f (g x) (flat_map g xs) ∙ ap (λ ys. map f (g x) ++ ys) (map_flat_map f g xs)

-- a member before the place says nothing of the values from there on
value_choices_past : (q : ℕ) (set : List ℕ) (p : ℕ) (lists : List (List ℕ)) → q < p → value_choices (q ∷ set) p lists ≡ value_choices set p lists
value_choices_past q set p [] below = refl
value_choices_past q set p (values ∷ lists) below =
    let rest = value_choices_past q set (p + 1) lists (omega arith) in
    let test = apart_test q p below in
    rw (test, rest) refl

value_given_past : (q : ℕ) (set : List ℕ) (v : ℕ) (chosen : List ℕ) (p n : ℕ) → q < p
    → map (value_given (q ∷ set) (v ∷ chosen)) (range_with_len p n) ≡ map (value_given set chosen) (range_with_len p n)
value_given_past q set v chosen p zero below = refl
value_given_past q set v chosen p (suc n) below =
    let rest = value_given_past q set v chosen (p + 1) n (omega arith) in
    let test = apart_test q p below in
    rw (test, rest) refl

pub rises_lower : (set : List ℕ) (q p e : ℕ) → p ≤ q → RisesFrom q e set → RisesFrom p e set
rises_lower [] q p e le rises = tt
rises_lower (r ∷ set) q p e le rises = (omega (arith, rises.0), rises.1, rises.2)

-- nothing is given before a rising set
pub value_given_before : (set chosen : List ℕ) (p e : ℕ) → RisesFrom (p + 1) e set → value_given set chosen p ≡ None
value_given_before [] chosen p e rises = refl
value_given_before (q ∷ set) [] p e rises = refl
value_given_before (q ∷ set) (v ∷ chosen) p e rises =
    let test = above_test q p (omega (arith, rises.0)) in
    rw test (value_given_before set chosen p e (rises_lower set (q + 1) (p + 1) e (omega (arith, rises.0)) rises.2))

pub not_among_before : (set : List ℕ) (p e : ℕ) → RisesFrom (p + 1) e set → is_among set p ≡ false
not_among_before [] p e rises = refl
not_among_before (q ∷ set) p e rises =
    let test = above_test q p (omega (arith, rises.0)) in
    rw test (not_among_before set p e (rises_lower set (q + 1) (p + 1) e (omega (arith, rises.0)) rises.2))

-- where a choice of values is given
abbrev pub spread : List ℕ → ℕ → ℕ → List ℕ → List (Option ℕ)
spread set p n chosen = map (value_given set chosen) (range_with_len p n)

spread_none : (set : List ℕ) (p n e : ℕ) (chosen : List ℕ) → RisesFrom (p + 1) e set → spread set p (suc n) chosen ≡ None ∷ spread set (p + 1) n chosen
spread_none set p n e chosen rises = ap (λ c. c ∷ spread set (p + 1) n chosen) (value_given_before set chosen p e rises)

spread_some : (set : List ℕ) (p n v : ℕ) (chosen : List ℕ) → spread (p ∷ set) p (suc n) (v ∷ chosen) ≡ Some v ∷ spread set (p + 1) n chosen
spread_some set p n v chosen =
    let test = eq-eqb p p refl in
    let past = value_given_past p set v chosen (p + 1) n (omega arith) in
    rw (test, past) refl

-- the lists at one parameter more
tail_same : (p : ℕ) (own : List ℕ) (lists : List (List ℕ)) (values : ℕ → List ℕ)
    → ((i : ℕ) → i < length (own ∷ lists) → get_or (own ∷ lists) i [] ≡ values (p + i))
    → (i : ℕ) → i < length lists → get_or lists i [] ≡ values (p + 1 + i)
tail_same p own lists values same i within =
    let next : p + suc i ≡ p + 1 + i = omega arith in
    same (suc i) (omega arith) ∙ ap values next

-- the parameter is the first member
choices_member : (set : List ℕ) (p : ℕ) (own : List ℕ) (lists : List (List ℕ)) (values : ℕ → List ℕ) → own ≡ values p
    → value_choices set (p + 1) lists ≡ map (spread set (p + 1) (length lists)) (value_lists values set)
    → value_choices (p ∷ set) p (own ∷ lists) ≡ map (spread (p ∷ set) p (suc (length lists))) (value_lists values (p ∷ set))
choices_member set p own lists values same rest =
    let test = eq-eqb p p refl in
    let left : value_choices (p ∷ set) p (own ∷ lists) ≡ flat_map (λ v. map (λ cells. Some v ∷ cells) (value_choices set (p + 1) lists)) own =
    rw (test, value_choices_past p set (p + 1) lists (omega arith)) refl in
    left
    ∙ flat_map_same (λ v. map (λ cells. Some v ∷ cells) (value_choices set (p + 1) lists))
    (λ v. map (spread (p ∷ set) p (suc (length lists))) (map (λ chosen. v ∷ chosen) (value_lists values set))) own each
    ∙ sym (map_flat_map (spread (p ∷ set) p (suc (length lists))) (λ v. map (λ chosen. v ∷ chosen) (value_lists values set)) own)
    ∙ ap (λ vs. map (spread (p ∷ set) p (suc (length lists))) (flat_map (λ v. map (λ chosen. v ∷ chosen) (value_lists values set)) vs)) same
  where
    each : (v : ℕ) → map (λ cells. Some v ∷ cells) (value_choices set (p + 1) lists)
        ≡ map (spread (p ∷ set) p (suc (length lists))) (map (λ chosen. v ∷ chosen) (value_lists values set))
    each v =
        ap (map (λ cells. Some v ∷ cells)) rest
        ∙ map-map (λ cells. Some v ∷ cells) (spread set (p + 1) (length lists)) (value_lists values set)
        ∙ map_same (λ chosen. Some v ∷ spread set (p + 1) (length lists) chosen) (λ chosen. spread (p ∷ set) p (suc (length lists)) (v ∷ chosen))
        (value_lists values set) (λ chosen. sym (spread_some set p (length lists) v chosen))
        ∙ sym (map-map (spread (p ∷ set) p (suc (length lists))) (λ chosen. v ∷ chosen) (value_lists values set))

-- the parameter is no member
choices_other : (set : List ℕ) (p : ℕ) (own : List ℕ) (lists : List (List ℕ)) (values : ℕ → List ℕ) → RisesFrom (p + 1) (p + 1 + length lists) set
    → value_choices set (p + 1) lists ≡ map (spread set (p + 1) (length lists)) (value_lists values set)
    → value_choices set p (own ∷ lists) ≡ map (spread set p (suc (length lists))) (value_lists values set)
choices_other set p own lists values rises rest =
    let test = not_among_before set p (p + 1 + length lists) rises in
    let left : value_choices set p (own ∷ lists) ≡ map (λ cells. None ∷ cells) (value_choices set (p + 1) lists) = rw test refl in
    left ∙ ap (map (λ cells. None ∷ cells)) rest
    ∙ map-map (λ cells. None ∷ cells) (spread set (p + 1) (length lists)) (value_lists values set)
    ∙ map_same (λ chosen. None ∷ spread set (p + 1) (length lists) chosen) (spread set p (suc (length lists))) (value_lists values set)
    (λ chosen. sym (spread_none set p (length lists) (p + 1 + length lists) chosen rises))

-- the cells that are chosen parameter by parameter are the choices of values of the members
pub value_choices_lists : (set : List ℕ) (p e : ℕ) (lists : List (List ℕ)) (values : ℕ → List ℕ) → e ≡ p + length lists → RisesFrom p e set
    → ((i : ℕ) → i < length lists → get_or lists i [] ≡ values (p + i))
    → value_choices set p lists ≡ map (spread set p (length lists)) (value_lists values set)
value_choices_lists [] p e [] values end rises same = refl
value_choices_lists (q ∷ set) p e [] values end rises same = absurd (omega (arith, rises.0, rises.1, end))
value_choices_lists [] p e (own ∷ lists) values end rises same =
    let rest = value_choices_lists [] (p + 1) e lists values (omega (arith, end)) tt (tail_same p own lists values same) in
    ap (map (λ cells. None ∷ cells)) rest
value_choices_lists (q ∷ set) p e (own ∷ lists) values end rises same =
    elim (cases_eq q p) [
      | inl here ↦
          let member = choices_member set p own lists values (same 0 (omega arith) ∙ ap values (omega arith))
          (value_choices_lists set (p + 1) e lists values (omega (arith, end)) (subst (λ r. RisesFrom (r + 1) e set) here rises.2)
          (tail_same p own lists values same)) in
          subst (λ r. value_choices (r ∷ set) p (own ∷ lists) ≡ map (spread (r ∷ set) p (suc (length lists))) (value_lists values (r ∷ set))) (sym here) member
      | inr apart ↦
          let above : RisesFrom (p + 1) e (q ∷ set) = (omega (arith, rises.0, apart), rises.1, rises.2) in
          let last : e ≡ p + 1 + length lists = omega (arith, end) in
          choices_other (q ∷ set) p own lists values (subst (λ r. RisesFrom (p + 1) r (q ∷ set)) last above)
          (value_choices_lists (q ∷ set) (p + 1) e lists values last above (tail_same p own lists values same))
    ]
