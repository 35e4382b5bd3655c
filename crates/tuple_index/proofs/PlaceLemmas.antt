-- Where choices of values stand.
use Rattle.std.proofs.Common.{inl, inr, ◌≡◌, ℕ, zero, suc, ◌+◌, ◌*◌, Bool, true, false, ◌||◌, ◌&&◌, List, [], ◌∷◌, ◌++◌, map, length, Some, ◌∙◌, refl, sym, subst, ap, arith, length-append}
use Rattle.std.specs.Prelude.{◌==◌, slice_get}
use Rattle.std.specs.List.{flat_map}
use Rattle.std.proofs.Math.Nat.{mul_assoc}
use Rattle.std.proofs.lemmas.Bool.{cases_eq, false≢true, and_parts}
use Rattle.std.proofs.lemmas.Bool.Decides.{nat_tests}
use Rattle.std.proofs.lemmas.List.{length-map}
use Rattle.std.specs.Option.{option_map}
use Rattle.std.proofs.lemmas.Option.{same_Some, slice_get_within, slice_get-map}
use Rattle.definitions.specs.believed.Demand.{is_among}
use Rattle.tuple_index.specs.Places.{value_lists, ways, place_of, place}

-- pieces of one length
pub length-flat_map_same : {X Y : Type 0} (f : X → List Y) (n : ℕ) (xs : List X) → ((x : X) → length (f x) ≡ n) → length (flat_map f xs) ≡ length xs * n
length-flat_map_same f n [] same = omega arith
length-flat_map_same f n (x ∷ xs) same =
    let rest = length-flat_map_same f n xs same in
    let more : length (x ∷ xs) * n ≡ n + length xs * n = grind arith in
    length-append (f x) (flat_map f xs) ∙ ap (λ k. k + length (flat_map f xs)) (same x) ∙ ap (λ k. n + k) rest ∙ sym more

pub length-value_lists : (values : ℕ → List ℕ) (set : List ℕ) → length (value_lists values set) ≡ ways values set
length-value_lists values [] = refl
length-value_lists values (p ∷ set) =
    length-flat_map_same (λ v. map (λ rest. v ∷ rest) (value_lists values set)) (ways values set) (values p)
    (λ v. length-map (value_lists values set) (λ rest. v ∷ rest) ∙ length-value_lists values set)

-- the ways of some members and those of more
pub ways_append : (values : ℕ → List ℕ) (xs ys : List ℕ) → ways values (xs ++ ys) ≡ ways values xs * ways values ys
ways_append values [] ys = omega arith
ways_append values (x ∷ xs) ys =
    ap (λ n. length (values x) * n) (ways_append values xs ys) ∙ sym (mul_assoc (length (values x)) (ways values xs) (ways values ys))

-- an item of one of two lists
pub slice_get-append_left : {X : Type 0} (xs ys : List X) (i : ℕ) (y : X) → slice_get xs i ≡ Some y → slice_get (xs ++ ys) i ≡ Some y
slice_get-append_left [] ys i y here = absurd (omega (arith, slice_get_within [] i y here))
slice_get-append_left (x ∷ xs) ys zero y here = here
slice_get-append_left (x ∷ xs) ys (suc i) y here = slice_get-append_left xs ys i y here

pub slice_get-append_right : {X : Type 0} (xs ys : List X) (n i : ℕ) → n ≡ length xs + i → slice_get (xs ++ ys) n ≡ slice_get ys i
slice_get-append_right [] ys n i at = ap (slice_get ys) (omega (arith, at))
slice_get-append_right (x ∷ xs) ys zero i at = absurd (omega (arith, at))
slice_get-append_right (x ∷ xs) ys (suc n) i at = slice_get-append_right xs ys n i (omega (arith, at))

-- an item of pieces of one length
pub slice_get-pieces : {X Y : Type 0} (f : X → List Y) (n : ℕ) (xs : List X) (d k i : ℕ) (x : X) (y : Y) → ((x : X) → length (f x) ≡ n)
    → i ≡ d * n + k → slice_get xs d ≡ Some x → slice_get (f x) k ≡ Some y → slice_get (flat_map f xs) i ≡ Some y
slice_get-pieces f n [] d k i x y same at here inner = absurd (omega (arith, slice_get_within [] d x here))
slice_get-pieces f n (w ∷ xs) zero k i x y same at here inner =
    let first : i ≡ k = grind (arith, at) in
    ap (slice_get (f w ++ flat_map f xs)) first
    ∙ slice_get-append_left (f w) (flat_map f xs) k y (ap (λ z. slice_get (f z) k) (same_Some _ _ here) ∙ inner)
slice_get-pieces f n (w ∷ xs) (suc d) k i x y same at here inner =
    let later : i ≡ n + (d * n + k) = grind (arith, at) in
    slice_get-append_right (f w) (flat_map f xs) i (d * n + k) (later ∙ ap (λ z. z + (d * n + k)) (sym (same w)))
    ∙ slice_get-pieces f n xs d k (d * n + k) x y same refl here inner

-- a number that is in a list stands at its place
pub slice_get-place_of : (values : List ℕ) (v : ℕ) → is_among values v ≡ true → slice_get values (place_of values v) ≡ Some v
slice_get-place_of [] v among = absurd (false≢true among)
slice_get-place_of (w ∷ values) v among =
    elim (cases_eq w v) [
      | inl here ↦ let test : (w == v) ≡ true = grind (arith, nat_tests) in
          rw test (ap Some here)
      | inr apart ↦ let test : (w == v) ≡ false = grind (arith, nat_tests) in
          let rest = slice_get-place_of values v (subst (λ b. (b || is_among values v) ≡ true) test among) in
          let next : place_of values v + 1 ≡ suc (place_of values v) = omega arith in
          rw test (ap (slice_get (w ∷ values)) next ∙ rest)
    ]

-- there is a value for each member, and each is one of the member's
abbrev pub all_among : (ℕ → List ℕ) → List ℕ → List ℕ → Bool
all_among values [] [] = true
all_among values [] (v ∷ chosen) = false
all_among values (p ∷ set) [] = false
all_among values (p ∷ set) (v ∷ chosen) = is_among (values p) v && all_among values set chosen

-- a choice of values stands at its place
pub slice_get-place : (values : ℕ → List ℕ) (set chosen : List ℕ) → all_among values set chosen ≡ true
    → slice_get (value_lists values set) (place values set chosen) ≡ Some chosen
slice_get-place values [] [] among = refl
slice_get-place values [] (v ∷ chosen) among = absurd (false≢true among)
slice_get-place values (p ∷ set) [] among = absurd (false≢true among)
slice_get-place values (p ∷ set) (v ∷ chosen) among =
    let parts = and_parts (is_among (values p) v) (all_among values set chosen) among in
    slice_get-pieces (λ v. map (λ rest. v ∷ rest) (value_lists values set)) (ways values set) (values p) (place_of (values p) v) (place values set chosen)
    (place_of (values p) v * ways values set + place values set chosen) v (v ∷ chosen)
    (λ v. length-map (value_lists values set) (λ rest. v ∷ rest) ∙ length-value_lists values set) refl
    (slice_get-place_of (values p) v parts.0)
    (slice_get-map (λ rest. v ∷ rest) (value_lists values set) (place values set chosen)
    ∙ ap (option_map (λ rest. v ∷ rest)) (slice_get-place values set chosen parts.1))
