-- The places of a slice in play for a column, and the tuples there.
use Rattle.std.proofs.Common.{◌≡◌, ℕ, ◌+◌, Bool, true, false, cond, ◌||◌, not, List, [], ◌∷◌, ◌++◌, map, length, filter, flat_map, Option, get_or, ◌∙◌, sym, ap, refl, append_assoc}
use Rattle.std.specs.Prelude.{take_while}
use Rattle.std.specs.List.{list_any, range_with_len}
use Rattle.std.proofs.lemmas.Bool.{false≢true}
use Rattle.std.proofs.lemmas.List.{length_push}
use Rattle.std.proofs.lemmas.List.Elements.{filter-append}
use Rattle.std.proofs.lemmas.List.Sums.{take_while-cons}
use Rattle.std.proofs.lemmas.List.Folds.{flat_map-map}
use Rattle.std.proofs.lemmas.List.Concat.{length-flat_map}
use Rattle.std.proofs.lemmas.Simd.{map-map}
use Rattle.value_text.proofs.ListLemmas.{map-get_or-range_with_len, filter-map}
use Rattle.uncovered_table.proofs.ChoiceLemmas.{same_slice, slice_listed}
use Rattle.cov_model.specs.declared.slice.Slice.{Slice}
use Rattle.cov_model.specs.believed.Sound.{ModelView}
use Rattle.cov_model.specs.believed.Slices.{slices}
use Rattle.definitions.specs.believed.Demand.{demanded_sets, tuples_in}
use Rattle.definitions.specs.believed.Growth.{tuples_in_play}
use Rattle.definitions.specs.SliceRows.{IsSliceOf}
use Rattle.tuple_index.proofs.ListingLemmas.{flat_map_same, map_flat_map}
use Rattle.uncovered_table.specs.Places.{set_at, tuple_at, is_slice, slice_start, places_in, slice_places, ends_with_column, is_in_play}

-- a part of a list, read place by place
read_at : {X : Type 0} (a : List X) (x : X) (c : List X) (d : X) → get_or (a ++ x ∷ c) (length a) d ≡ x
read_at [] x c d = refl
read_at (y ∷ a) x c d = read_at a x c d

pub read_part : {X : Type 0} (a b c : List X) (d : X) → map (λ k. get_or (a ++ (b ++ c)) k d) (range_with_len (length a) (length b)) ≡ b
read_part a [] c d = refl
read_part a (x ∷ b) c d =
    ap (λ y. y ∷ map (λ k. get_or (a ++ (x ∷ (b ++ c))) k d) (range_with_len (length a + 1) (length b))) (read_at a x (b ++ c) d)
    ∙ ap (λ rest. x ∷ rest)
    (ap (λ xs. map (λ k. get_or xs k d) (range_with_len (length a + 1) (length b))) (sym (append_assoc a (x ∷ []) (b ++ c)))
    ∙ ap (λ n. map (λ k. get_or ((a ++ x ∷ []) ++ (b ++ c)) k d) (range_with_len n (length b))) (sym (length_push a x))
    ∙ read_part (a ++ x ∷ []) b c d)

-- the pieces before the first item that passes, that piece, and the others
record Pieces {X Y : Type 0} (f : X → List Y) (is : X → Bool) (xs : List X) (x : X) : Type 0 where
  rest : List Y
  whole : flat_map f xs ≡ flat_map f (take_while (λ y. not (is y)) xs) ++ (f x ++ rest)

pieces : {X Y : Type 0} (f : X → List Y) (is : X → Bool) (xs : List X) (x : X) → ((y : X) → is y ≡ true → y ≡ x) → list_any is xs ≡ true → Pieces f is xs x
pieces f is [] x one some = absurd (false≢true some)
pieces f is (y ∷ xs) x one some = by_test (is y) refl some (λ later. pieces f is xs x one later)
  where
    by_test : (b : Bool) → is y ≡ b → (b || list_any is xs) ≡ true → (list_any is xs ≡ true → Pieces f is xs x) → Pieces f is (y ∷ xs) x
    by_test true test some later = record {
      rest = flat_map f xs;
      whole =
          ap (λ z. f z ++ flat_map f xs) (one y test)
          ∙ ap (λ (b : Bool). flat_map f (cond (not b) (y ∷ take_while (λ z. not (is z)) xs) []) ++ (f x ++ flat_map f xs)) (sym test)
          ∙ ap (λ zs. flat_map f zs ++ (f x ++ flat_map f xs)) (sym (take_while-cons (λ z. not (is z)) y xs));
    }
    by_test false test some later = record {
      rest = (later some).rest;
      whole =
          ap (λ zs. f y ++ zs) (later some).whole
          ∙ sym (append_assoc (f y) (flat_map f (take_while (λ z. not (is z)) xs)) (f x ++ (later some).rest))
          ∙ ap (λ (b : Bool). flat_map f (cond (not b) (y ∷ take_while (λ z. not (is z)) xs) []) ++ (f x ++ (later some).rest)) (sym test)
          ∙ ap (λ zs. flat_map f zs ++ (f x ++ (later some).rest)) (sym (take_while-cons (λ z. not (is z)) y xs));
    }

-- the tuples at the places of a set
pub tuples_at : (m : ModelView) (slice : Slice) (set : ℕ) → IsSliceOf m slice → map (tuple_at m) (places_in m slice set) ≡ tuples_in m (set_at m set) slice
tuples_at m slice set is =
    let parts = pieces (tuples_in m (set_at m set)) (λ other. is_slice other slice) (slices m) slice (λ other test. same_slice other slice test)
    (slice_listed m slice is) in
    let before : List (List (Option ℕ)) = flat_map (tuples_in m (set_at m set)) (take_while (λ other. not (is_slice other slice)) (slices m)) in
    map-map (tuple_at m) (λ rank. (set, rank)) (range_with_len (slice_start m (set_at m set) slice) (length (tuples_in m (set_at m set) slice)))
    ∙ ap (λ (tuples : List (List (Option ℕ))). map (λ rank. get_or tuples rank [])
    (range_with_len (slice_start m (set_at m set) slice) (length (tuples_in m (set_at m set) slice)))) parts.whole
    ∙ ap (λ (n : ℕ). map (λ rank. get_or (before ++ (tuples_in m (set_at m set) slice ++ parts.rest)) rank [])
    (range_with_len n (length (tuples_in m (set_at m set) slice))))
    (sym (length-flat_map (tuples_in m (set_at m set)) (take_while (λ other. not (is_slice other slice)) (slices m))))
    ∙ read_part before (tuples_in m (set_at m set) slice) parts.rest []

filter-flat_map : {X Y : Type 0} (test : Y → Bool) (f : X → List Y) (xs : List X) → filter test (flat_map f xs) ≡ flat_map (λ x. filter test (f x)) xs
filter-flat_map test f [] = refl
filter-flat_map test f (x ∷ xs) = filter-append test (f x) (flat_map f xs) ∙ ap (λ rest. filter test (f x) ++ rest) (filter-flat_map test f xs)

filter-constant : {X : Type 0} (b : Bool) (xs : List X) → filter (λ x. b) xs ≡ cond b xs []
filter-constant true [] = refl
filter-constant false [] = refl
filter-constant true (x ∷ xs) = ap (λ rest. x ∷ rest) (filter-constant true xs)
filter-constant false (x ∷ xs) = filter-constant false xs

flat_map-filter : {X Y : Type 0} (f : X → List Y) (test : X → Bool) (xs : List X) → flat_map f (filter test xs) ≡ flat_map (λ x. cond (test x) (f x) []) xs
flat_map-filter f test [] = refl
flat_map-filter f test (x ∷ xs) = at (test x) ∙ ap (λ rest. cond (test x) (f x) [] ++ rest) (flat_map-filter f test xs)
  where
    at : (b : Bool) → flat_map f (cond b (x ∷ filter test xs) (filter test xs)) ≡ cond b (f x) [] ++ flat_map f (filter test xs)
    at true = refl
    at false = refl

-- the tuples of a set, where it is in play
abbrev given : ModelView → Slice → ℕ → List ℕ → List (List (Option ℕ))
given m slice p set = cond (ends_with_column m slice p set) (tuples_in m set slice) []

abbrev ranks : ModelView → Slice → ℕ → List ℕ
ranks m slice set = range_with_len (slice_start m (set_at m set) slice) (length (tuples_in m (set_at m set) slice))

given_at : (m : ModelView) (slice : Slice) (p set : ℕ) → IsSliceOf m slice
    → map (tuple_at m) (filter (is_in_play m slice p) (places_in m slice set)) ≡ given m slice p (set_at m set)
given_at m slice p set is =
    ap (map (tuple_at m))
    (filter-map (is_in_play m slice p) (λ rank. (set, rank)) (ranks m slice set)
    ∙ ap (map (λ rank. (set, rank))) (filter-constant (ends_with_column m slice p (set_at m set)) (ranks m slice set)))
    ∙ at (ends_with_column m slice p (set_at m set))
  where
    at : (b : Bool) → map (tuple_at m) (map (λ rank. (set, rank)) (cond b (ranks m slice set) [])) ≡ cond b (tuples_in m (set_at m set) slice) []
    at true = tuples_at m slice set is
    at false = refl

-- the places of a slice that are in play for a column are those of the tuples in play
pub places_in_play : (m : ModelView) (slice : Slice) (p : ℕ) → IsSliceOf m slice
    → map (tuple_at m) (filter (is_in_play m slice p) (slice_places m slice)) ≡ tuples_in_play m slice p
places_in_play m slice p is =
    ap (map (tuple_at m)) (filter-flat_map (is_in_play m slice p) (places_in m slice) (range_with_len 0 (length (demanded_sets m))))
    ∙ map_flat_map (tuple_at m) (λ set. filter (is_in_play m slice p) (places_in m slice set)) (range_with_len 0 (length (demanded_sets m)))
    ∙ flat_map_same (λ set. map (tuple_at m) (filter (is_in_play m slice p) (places_in m slice set))) (λ set. given m slice p (set_at m set))
    (range_with_len 0 (length (demanded_sets m)))
    (λ set. given_at m slice p set is)
    ∙ sym (flat_map-map (given m slice p) (λ k. get_or (demanded_sets m) k []) (range_with_len 0 (length (demanded_sets m))))
    ∙ ap (flat_map (given m slice p)) (map-get_or-range_with_len (demanded_sets m) [])
    ∙ sym (flat_map-filter (λ set. tuples_in m set slice) (ends_with_column m slice p) (demanded_sets m))
