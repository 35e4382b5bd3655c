-- The steps and the ends of the loops that list choices.
use Rattle.std.proofs.Common.{Some, Bool, true, false, ◌||◌, ◌≡◌, ℕ, zero, suc, ◌+◌, ◌-◌, ◌<◌, ◌≤◌, List, [], ◌∷◌, ◌++◌, map, take, drop, length, get_or, ◌∙◌, refl, sym, ap, arith, append_assoc}
use Rattle.std.specs.List.{flat_map, filter, list_any, range_with_len}
use Rattle.std.proofs.lemmas.List.Folds.{flat_map-map}
use Rattle.std.proofs.lemmas.List.{at_drop_more, at_drop_all, append-nil, length-drop, length_push, map-append, take-append-le}
use Rattle.std.proofs.Math.Seq.{take-length}
use Rattle.std.specs.Prelude.{slice_get}
use Rattle.std.proofs.lemmas.Option.{get_or_from_slice_get}
use Rattle.std.proofs.lemmas.Simd.{map-map}
use Rattle.value_text.proofs.ListLemmas.{map-get_or-range_with_len, range_step}
use Rattle.definitions.specs.believed.Demand.{choose, unions}

-- one item more of a list whose pieces are put one after another
pub flat_step : {X Y : Type 0} (f : X → List Y) (xs : List X) (i : ℕ) (x : X) (before after whole : List Y) → i < length xs → x ≡ get_or xs i x
    → after ≡ before ++ f x → before ++ flat_map f (drop i xs) ≡ whole → after ++ flat_map f (drop (i + 1) xs) ≡ whole
flat_step f xs i x before after whole within read longer so_far =
    let opened : flat_map f (drop i xs) ≡ f x ++ flat_map f (drop (i + 1) xs) =
    at_drop_more (flat_map f) xs i x within ∙ ap (λ y. f y ++ flat_map f (drop (i + 1) xs)) (sym read) in
    ap (λ ys. ys ++ flat_map f (drop (i + 1) xs)) longer
    ∙ append_assoc before (f x) (flat_map f (drop (i + 1) xs))
    ∙ ap (λ ys. before ++ ys) (sym opened) ∙ so_far

pub flat_end : {X Y : Type 0} (f : X → List Y) (xs : List X) (i : ℕ) (before whole : List Y) → length xs ≤ i
    → before ++ flat_map f (drop i xs) ≡ whole → before ≡ whole
flat_end f xs i before whole past so_far =
    sym (append-nil before) ∙ ap (λ ys. before ++ ys) (sym (at_drop_all (flat_map f) xs i past)) ∙ so_far

-- of fewer items there is no way to take k
choose_few : {X : Type 0} (k : ℕ) (xs : List X) → length xs < k → choose k xs ≡ []
choose_few zero xs few = absurd (omega (arith, few))
choose_few (suc k) [] few = refl
choose_few (suc k) (x ∷ xs) few =
    let with_it = choose_few k xs (omega (arith, few)) in
    let without = choose_few (suc k) xs (omega (arith, few)) in
    rw (with_it, without) refl

pub choose_step : {X : Type 0} (k i : ℕ) (xs : List X) (x : X) (rest before after whole : List (List X)) → 0 < k → i < length xs → x ≡ get_or xs i x
    → rest ≡ choose (k - 1) (drop (i + 1) xs) → after ≡ before ++ map (λ other. x ∷ other) rest
    → before ++ choose k (drop i xs) ≡ whole → after ++ choose k (drop (i + 1) xs) ≡ whole
choose_step zero i xs x rest before after whole some within read others longer so_far = absurd (omega (arith, some))
choose_step (suc k) i xs x rest before after whole some within read others longer so_far =
    let less : suc k - 1 ≡ k = omega arith in
    let later = choose (suc k) (drop (i + 1) xs) in
    let pieces : map (λ other. x ∷ other) rest ≡ map (λ other. x ∷ other) (choose k (drop (i + 1) xs)) =
    ap (map (λ other. x ∷ other)) (others ∙ ap (λ n. choose n (drop (i + 1) xs)) less) in
    let opened : choose (suc k) (drop i xs) ≡ map (λ other. x ∷ other) (choose k (drop (i + 1) xs)) ++ later =
    at_drop_more (choose (suc k)) xs i x within ∙ ap (λ y. map (λ other. y ∷ other) (choose k (drop (i + 1) xs)) ++ later) (sym read) in
    ap (λ ys. ys ++ later) (longer ∙ ap (λ ys. before ++ ys) pieces)
    ∙ append_assoc before (map (λ other. x ∷ other) (choose k (drop (i + 1) xs))) later
    ∙ ap (λ ys. before ++ ys) (sym opened) ∙ so_far

pub choose_end : {X : Type 0} (k i : ℕ) (xs : List X) (before whole : List (List X)) → 0 < k → length xs - (k - 1) ≤ i
    → before ++ choose k (drop i xs) ≡ whole → before ≡ whole
choose_end k i xs before whole some past so_far =
    let few : length (drop i xs) < k = omega (arith, length-drop i xs, past, some) in
    sym (append-nil before) ∙ ap (λ ys. before ++ ys) (sym (choose_few k (drop i xs) few)) ∙ so_far

-- what is made of the ways to take k items, item by item
pub made_step : {X Y : Type 0} (f : List X → Y) (k i : ℕ) (xs : List X) (d : X) (before after whole : List Y) → 0 < k → i < length xs
    → after ≡ before ++ map (λ rest. f (get_or xs i d ∷ rest)) (choose (k - 1) (drop (i + 1) xs))
    → before ++ map f (choose k (drop i xs)) ≡ whole → after ++ map f (choose k (drop (i + 1) xs)) ≡ whole
made_step f zero i xs d before after whole some within longer so_far = absurd (omega (arith, some))
made_step f (suc k) i xs d before after whole some within longer so_far =
    let less : suc k - 1 ≡ k = omega arith in
    let x = get_or xs i d in
    let with_it = choose k (drop (i + 1) xs) in
    let without = choose (suc k) (drop (i + 1) xs) in
    let opened : map f (choose (suc k) (drop i xs)) ≡ map (λ rest. f (x ∷ rest)) with_it ++ map f without =
    ap (map f) (at_drop_more (choose (suc k)) xs i d within)
    ∙ map-append f (map (λ rest. x ∷ rest) with_it) without
    ∙ ap (λ ys. ys ++ map f without) (map-map f (λ rest. x ∷ rest) with_it) in
    ap (λ ys. ys ++ map f without) (longer ∙ ap (λ n. before ++ map (λ rest. f (x ∷ rest)) (choose n (drop (i + 1) xs))) less)
    ∙ append_assoc before (map (λ rest. f (x ∷ rest)) with_it) (map f without)
    ∙ ap (λ ys. before ++ ys) (sym opened) ∙ so_far

pub made_end : {X Y : Type 0} (f : List X → Y) (k i : ℕ) (xs : List X) (before whole : List Y) → 0 < k → length xs - (k - 1) ≤ i
    → before ++ map f (choose k (drop i xs)) ≡ whole → before ≡ whole
made_end f k i xs before whole some past so_far =
    let few : length (drop i xs) < k = omega (arith, length-drop i xs, past, some) in
    sym (append-nil before) ∙ ap (λ ys. before ++ map f ys) (sym (choose_few k (drop i xs) few)) ∙ so_far

-- an item put behind others and taken off again
pub taken_off : {X : Type 0} (xs longer shorter : List X) (x : X) (n : ℕ) → longer ≡ xs ++ x ∷ [] → n ≡ length longer → shorter ≡ take (n - 1) longer
    → shorter ≡ xs
taken_off xs longer shorter x n put long off =
    let few : n - 1 ≡ length xs = omega (arith, long, ap length put, length_push xs x) in
    off ∙ ap (λ k. take k longer) few ∙ ap (take (length xs)) put ∙ take-append-le (length xs) xs (x ∷ []) (omega arith) ∙ take-length xs

-- one number more that passes a test, and one that doesn't
pub single_found : {Y : Type 0} (f : ℕ → Bool) (g : ℕ → Y) (p count : ℕ) (before after whole : List Y) → p < count → f p ≡ true → after ≡ before ++ g p ∷ []
    → before ++ map g (filter f (range_with_len p (count - p))) ≡ whole → after ++ map g (filter f (range_with_len (p + 1) (count - (p + 1)))) ≡ whole
single_found f g p count before after whole within passes longer so_far =
    let later = map g (filter f (range_with_len (p + 1) (count - (p + 1)))) in
    let opened : map g (filter f (range_with_len p (count - p))) ≡ g p ∷ later = rw (range_step p count within, passes) refl in
    ap (λ ys. ys ++ later) longer ∙ append_assoc before (g p ∷ []) later ∙ ap (λ ys. before ++ ys) (sym opened) ∙ so_far

pub single_passed : {Y : Type 0} (f : ℕ → Bool) (g : ℕ → Y) (p count : ℕ) (before after whole : List Y) → p < count → f p ≡ false → after ≡ before
    → before ++ map g (filter f (range_with_len p (count - p))) ≡ whole → after ++ map g (filter f (range_with_len (p + 1) (count - (p + 1)))) ≡ whole
single_passed f g p count before after whole within fails same so_far =
    let opened : map g (filter f (range_with_len p (count - p))) ≡ map g (filter f (range_with_len (p + 1) (count - (p + 1)))) =
    rw (range_step p count within, fails) refl in
    ap (λ ys. ys ++ map g (filter f (range_with_len (p + 1) (count - (p + 1))))) same ∙ ap (λ ys. before ++ ys) (sym opened) ∙ so_far

-- choices of places are choices of the items there
pub choose-map : {X Y : Type 0} (f : X → Y) (k : ℕ) (xs : List X) → choose k (map f xs) ≡ map (map f) (choose k xs)
choose-map f zero xs = refl
choose-map f (suc k) [] = refl
choose-map f (suc k) (x ∷ xs) =
    let with_it = choose-map f k xs in
    let without = choose-map f (suc k) xs in
    let front : map (λ rest. f x ∷ rest) (choose k (map f xs)) ≡ map (map f) (map (λ rest. x ∷ rest) (choose k xs)) =
    ap (map (λ rest. f x ∷ rest)) with_it ∙ map-map (λ rest. f x ∷ rest) (map f) (choose k xs) ∙ sym (map-map (map f) (λ rest. x ∷ rest) (choose k xs)) in
    ap (λ ys. ys ++ choose (suc k) (map f xs)) front
    ∙ ap (λ ys. map (map f) (map (λ rest. x ∷ rest) (choose k xs)) ++ ys) without
    ∙ sym (map-append (map f) (map (λ rest. x ∷ rest) (choose k xs)) (choose (suc k) xs))

pub choices_at : {X Y : Type 0} (f : List X → List Y) (k : ℕ) (xs : List X) (d : X) (picks : List (List ℕ)) → picks ≡ choose k (range_with_len 0 (length xs))
    → flat_map (λ pick. f (map (λ i. get_or xs i d) pick)) picks ≡ flat_map f (choose k xs)
choices_at f k xs d picks all =
    ap (flat_map (λ pick. f (map (λ i. get_or xs i d) pick))) all
    ∙ sym (flat_map-map f (map (λ i. get_or xs i d)) (choose k (range_with_len 0 (length xs))))
    ∙ ap (flat_map f) (sym (choose-map (λ i. get_or xs i d) k (range_with_len 0 (length xs))))
    ∙ ap (λ ys. flat_map f (choose k ys)) (map-get_or-range_with_len xs d)

-- one item more that fails a test
pub any_step : {X : Type 0} (f : X → Bool) (xs : List X) (i : ℕ) (x : X) (whole : Bool) → i < length xs → x ≡ get_or xs i x → f x ≡ false
    → list_any f (drop i xs) ≡ whole → list_any f (drop (i + 1) xs) ≡ whole
any_step f xs i x whole within read fails so_far =
    let opened : list_any f (drop i xs) ≡ list_any f (drop (i + 1) xs) =
    at_drop_more (list_any f) xs i x within ∙ ap (λ y. f y || list_any f (drop (i + 1) xs)) (sym read) ∙ ap (λ b. b || list_any f (drop (i + 1) xs)) fails in
    sym opened ∙ so_far

-- the unions of the units taken are those of the first with those of the others
pub unions_first : (units : List (List (List ℕ))) (taken : List ℕ) (ways first others : List (List ℕ)) → 0 < length taken
    → slice_get units (get_or taken 0 0) ≡ Some ways
    → first ≡ ways → others ≡ unions (map (λ u. get_or units u []) (drop 1 taken))
    → flat_map (λ way. map (λ other. way ++ other) others) first ≡ unions (map (λ u. get_or units u []) taken)
unions_first units [] ways first others some found same rest = absurd (omega (arith, some))
unions_first units (u ∷ taken) ways first others some found same rest =
    let own : first ≡ get_or units u [] = same ∙ sym (get_or_from_slice_get units u ways [] found) in
    ap (λ ys. flat_map (λ way. map (λ other. way ++ other) ys) first) rest
    ∙ ap (flat_map (λ way. map (λ other. way ++ other) (unions (map (λ u. get_or units u []) taken)))) own

pub single_end : {Y : Type 0} (f : ℕ → Bool) (g : ℕ → Y) (p count : ℕ) (before whole : List Y) → count ≤ p
    → before ++ map g (filter f (range_with_len p (count - p))) ≡ whole → before ≡ whole
single_end f g p count before whole past so_far =
    let none : count - p ≡ 0 = omega (arith, past) in
    sym (append-nil before) ∙ ap (λ n. before ++ map g (filter f (range_with_len p n))) (sym none) ∙ so_far
