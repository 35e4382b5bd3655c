-- Edges, looked for value by value and set by set.
use Rattle.std.proofs.Common.{◌≡◌, ℕ, ◌+◌, ◌<◌, Bool, true, false, cond, ◌&&◌, ◌||◌, List, [], ◌∷◌, ◌++◌, map, filter, length, Option, refl, sym, ap, subst, ◌∙◌, arith, append_assoc}
use Rattle.std.specs.Prelude.{count_by}
use Rattle.std.specs.List.{list_any}
use Rattle.std.proofs.lemmas.List.{append-nil, map-append}
use Rattle.std.proofs.lemmas.List.Elements.{filter-append}
use Rattle.std.proofs.lemmas.List.Sums.{sum_by-cons}
use Rattle.value_text.proofs.ListLemmas.{filter_same}
use Rattle.suspect_tuples.specs.believed.Suspects.{gives, has_tuple, is_smallest}
use Rattle.suspect_tuples.specs.Edges.{edges_behind, is_edge, is_had}
use Rattle.suspect_tuples.proofs.PartLemmas.{smallest_are_edges}

-- those of two lists
pub edges_append : (passing rows : List (List (Option ℕ))) (before : List (ℕ × ℕ)) (xs ys : List (List (ℕ × ℕ)))
    → edges_behind passing rows before (xs ++ ys) ≡ edges_behind passing rows before xs ++ edges_behind passing rows before ys
edges_append passing rows before xs ys =
    let test : List (ℕ × ℕ) → Bool = λ rest. is_had rows rest && is_edge passing (before ++ rest) in
    let told : List (ℕ × ℕ) → List (ℕ × ℕ) × ℕ = λ rest. (before ++ rest, count_by (has_tuple rest) rows) in
    ap (map told) (filter-append test xs ys) ∙ map-append told (filter test xs) (filter test ys)

-- of no rows there are none
pub edges_of_none : (passing : List (List (Option ℕ))) (before : List (ℕ × ℕ)) (xs : List (List (ℕ × ℕ))) → edges_behind passing [] before xs ≡ []
edges_of_none passing before [] = refl
edges_of_none passing before (x ∷ xs) = edges_of_none passing before xs

-- the rows that have a pair and what follows are those with the pair that have what follows
had_behind : {X : Type 0} (f g : X → Bool) (xs : List X) → list_any (λ x. f x && g x) xs ≡ list_any g (filter f xs)
had_behind f g [] = refl
had_behind f g (x ∷ xs) = at (f x) (had_behind f g xs)
  where
    at : (b : Bool) → list_any (λ x. f x && g x) xs ≡ list_any g (filter f xs)
        → ((b && g x) || list_any (λ x. f x && g x) xs) ≡ list_any g (cond b (x ∷ filter f xs) (filter f xs))
    at true later = ap (λ b. g x || b) later
    at false later = later

count_cons : {X : Type 0} (f : X → Bool) (x : X) (xs : List X) → count_by f (x ∷ xs) ≡ cond (f x) 1 0 + count_by f xs
count_cons f x xs = sum_by-cons (λ x. cond (f x) 1 0) x xs

count_behind : {X : Type 0} (f g : X → Bool) (xs : List X) → count_by (λ x. f x && g x) xs ≡ count_by g (filter f xs)
count_behind f g [] = refl
count_behind f g (x ∷ xs) = count_cons (λ x. f x && g x) x xs ∙ at (f x) (count_behind f g xs)
  where
    at : (b : Bool) → count_by (λ x. f x && g x) xs ≡ count_by g (filter f xs)
        → cond (b && g x) 1 0 + count_by (λ x. f x && g x) xs ≡ count_by g (cond b (x ∷ filter f xs) (filter f xs))
    at true later = ap (λ n. cond (g x) 1 0 + n) later ∙ sym (count_cons g x (filter f xs))
    at false later = omega (arith, later)

-- two lists stay the same by one item more, or none
kept_or_not : {X Y Z : Type 0} (f : X → Z) (g : Y → Z) (x : X) (y : Y) (xs : List X) (ys : List Y) (a b : Bool) → a ≡ b → f x ≡ g y → map f xs ≡ map g ys
    → map f (cond a (x ∷ xs) xs) ≡ map g (cond b (y ∷ ys) ys)
kept_or_not f g x y xs ys a b same item later = subst (λ c. map f (cond a (x ∷ xs) xs) ≡ map g (cond c (y ∷ ys) ys)) same (at a)
  where
    at : (a : Bool) → map f (cond a (x ∷ xs) xs) ≡ map g (cond a (y ∷ ys) ys)
    at true = ap (λ z. z ∷ map f xs) item ∙ ap (λ zs. g y ∷ zs) later
    at false = later

-- so a pair more before what follows narrows the rows
pub edges_narrow : (passing rows : List (List (Option ℕ))) (before : List (ℕ × ℕ)) (pair : ℕ × ℕ) (xs : List (List (ℕ × ℕ)))
    → edges_behind passing rows before (map (λ rest. pair ∷ rest) xs) ≡ edges_behind passing (filter (λ row. gives row pair) rows) (before ++ pair ∷ []) xs
edges_narrow passing rows before pair [] = refl
edges_narrow passing rows before pair (x ∷ xs) =
    let some : is_had rows (pair ∷ x) ≡ is_had kept x = had_behind (λ row. gives row pair) (has_tuple x) rows in
    let many : count_by (has_tuple (pair ∷ x)) rows ≡ count_by (has_tuple x) kept = count_behind (λ row. gives row pair) (has_tuple x) rows in
    let joined : before ++ pair ∷ x ≡ (before ++ pair ∷ []) ++ x = sym (append_assoc before (pair ∷ []) x) in
    kept_or_not (λ rest. (before ++ rest, count_by (has_tuple rest) rows)) (λ rest. ((before ++ pair ∷ []) ++ rest, count_by (has_tuple rest) kept))
    (pair ∷ x) x (filter (λ rest. is_had rows rest && is_edge passing (before ++ rest)) (map (λ rest. pair ∷ rest) xs))
    (filter (λ rest. is_had kept rest && is_edge passing ((before ++ pair ∷ []) ++ rest)) xs)
    (is_had rows (pair ∷ x) && is_edge passing (before ++ pair ∷ x)) (is_had kept x && is_edge passing ((before ++ pair ∷ []) ++ x))
    (ap (λ b. b && is_edge passing (before ++ pair ∷ x)) some ∙ ap (λ t. is_had kept x && is_edge passing t) joined)
    (ap (λ t. (t, count_by (has_tuple (pair ∷ x)) rows)) joined ∙ ap (λ n. ((before ++ pair ∷ []) ++ x, n)) many)
    (edges_narrow passing rows before pair xs)
  where
    kept : List (List (Option ℕ))
    kept = filter (λ row. gives row pair) rows

-- with nothing to follow
pub edge_here : (passing rows : List (List (Option ℕ))) (before : List (ℕ × ℕ)) → 0 < length rows → is_edge passing before ≡ true
    → edges_behind passing rows before ([] ∷ []) ≡ (before, length rows) ∷ []
edge_here passing [] before some edge = absurd (omega (arith, some))
edge_here passing (row ∷ rows) before some edge =
    let whole : before ++ [] ≡ before = append-nil before in
    let passes : is_edge passing (before ++ []) ≡ true = ap (is_edge passing) whole ∙ edge in
    let here = kept_or_not (λ rest. (before ++ rest, count_by (has_tuple rest) (row ∷ rows))) (λ rest. (before ++ rest, count_by (has_tuple rest) (row ∷ rows))) [] [] [] []
    (is_edge passing (before ++ [])) true passes refl refl in
    here ∙ ap (λ t. (t, count_by (has_tuple []) (row ∷ rows)) ∷ []) whole ∙ ap (λ n. (before, n) ∷ []) (count_all (row ∷ rows))
  where
    count_all : {X : Type 0} (xs : List X) → count_by (λ x. true) xs ≡ length xs
    count_all [] = refl
    count_all (x ∷ xs) = count_cons (λ x. true) x xs ∙ omega (arith, count_all xs)

pub no_edge_here : (passing rows : List (List (Option ℕ))) (before : List (ℕ × ℕ)) → is_edge passing before ≡ false
    → edges_behind passing rows before ([] ∷ []) ≡ []
no_edge_here passing [] before edge = refl
no_edge_here passing (row ∷ rows) before edge =
    let fails : is_edge passing (before ++ []) ≡ false = ap (is_edge passing) (append-nil before) ∙ edge in
    kept_or_not (λ rest. (before ++ rest, count_by (has_tuple rest) (row ∷ rows))) (λ rest. (before ++ rest, count_by (has_tuple rest) (row ∷ rows))) [] [] [] []
    (is_edge passing (before ++ [])) false fails refl refl

-- behind no pairs they are the smallest suspicious tuples
pub edges_are_smallest : (passing failing : List (List (Option ℕ))) (xs : List (List (ℕ × ℕ)))
    → edges_behind passing failing [] xs ≡ map (λ tuple. (tuple, count_by (has_tuple tuple) failing)) (filter (is_smallest passing failing) xs)
edges_are_smallest passing failing xs =
    ap (map (λ tuple. (tuple, count_by (has_tuple tuple) failing)))
    (filter_same (λ rest. is_had failing rest && is_edge passing rest) (is_smallest passing failing) xs (λ x. sym (smallest_are_edges passing failing x)))
