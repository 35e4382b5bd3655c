-- The parts of a tuple: one pair less is enough.
use Rattle.std.proofs.Common.{◌≡◌, ℕ, zero, suc, ◌-◌, ◌<◌, Bool, true, false, ◌&&◌, ◌||◌, not, List, [], ◌∷◌, map, length, Option, inl, inr, refl, sym, ap, subst, ◌∙◌, arith, zero-add, ◌+◌, ◌≤◌}
use Rattle.std.specs.Prelude.{remove}
use Rattle.std.specs.List.{list_all, list_any, range_with_len}
use Rattle.std.proofs.lemmas.Bool.{false≢true, false_from_ne_true, and_parts, and_from}
use Rattle.std.proofs.lemmas.List.Folds.{list_all-append}
use Rattle.value_text.proofs.ListLemmas.{range_with_len_more}
use Rattle.definitions.specs.believed.Demand.{choose}
use Rattle.definitions.proofs.Members.{Has, has_left, has_right, of_append, has_map, of_map, has_flat, of_flat, any_member, of_any, all_pass, passes_all, has_range, of_range, same_answer}
use Rattle.suspect_tuples.specs.believed.Suspects.{gives, has_tuple, is_smallest, is_suspicious, proper_parts}
use Rattle.suspect_tuples.specs.Edges.{is_edge, is_had}

-- a test that all items pass is passed by all items of a way to take some
choice_passes : {X : Type 0} (g : X → Bool) (k : ℕ) (xs ys : List X) → Has (choose k xs) ys → list_all g xs ≡ true → list_all g ys ≡ true
choice_passes g zero xs ys (inl is) all = ap (list_all g) (sym is)
choice_passes g zero xs ys (inr has) all = absurd has
choice_passes g (suc k) [] ys has all = absurd has
choice_passes g (suc k) (x ∷ xs) ys has all =
    let parts = and_parts (g x) (list_all g xs) all in
    elim (of_append (map (λ rest. x ∷ rest) (choose k xs)) (choose (suc k) xs) ys has) [
      | inl here ↦
          let rest = of_map (λ rest. x ∷ rest) (choose k xs) ys here in
          ap (list_all g) (sym rest.2) ∙ and_from (g x) (list_all g rest.0) parts.0 (choice_passes g k xs rest.0 rest.1 parts.1)
      | inr there ↦ choice_passes g (suc k) xs ys there parts.1
    ]

-- all items are a way to take as many
choice_of_all : {X : Type 0} (xs : List X) → Has (choose (length xs) xs) xs
choice_of_all [] = inl refl
choice_of_all (x ∷ xs) =
    has_left (map (λ rest. x ∷ rest) (choose (length xs) xs)) (choose (suc (length xs)) xs) (x ∷ xs)
    (has_map (λ rest. x ∷ rest) (choose (length xs) xs) xs (choice_of_all xs))

-- so are all but one
choice_of_others : {X : Type 0} (xs : List X) (i k : ℕ) → i < length xs → suc k ≡ length xs → Has (choose k xs) (remove xs i)
choice_of_others [] i k within count = absurd (omega (arith, within))
choice_of_others (x ∷ xs) zero zero within count = inl (empty xs (omega (arith, count)))
  where
    empty : {X : Type 0} (xs : List X) → length xs ≡ 0 → [] ≡ xs
    empty [] none = refl
    empty (x ∷ xs) none = absurd (omega (arith, none))
choice_of_others (x ∷ xs) zero (suc k) within count =
    let same : length xs ≡ suc k = omega (arith, count) in
    has_right (map (λ rest. x ∷ rest) (choose k xs)) (choose (suc k) xs) xs (subst (λ n. Has (choose n xs) xs) same (choice_of_all xs))
choice_of_others (x ∷ xs) (suc i) zero within count = absurd (omega (arith, within, count))
choice_of_others (x ∷ xs) (suc i) (suc k) within count =
    has_left (map (λ rest. x ∷ rest) (choose k xs)) (choose (suc k) xs) (x ∷ remove xs i)
    (has_map (λ rest. x ∷ rest) (choose k xs) (remove xs i) (choice_of_others xs i k (omega (arith, within)) (omega (arith, count))))

-- and a way to take fewer lacks an item, which the others then don't need
record Lacks {X : Type 0} (xs ys : List X) : Type 0 where
  place : ℕ
  within : place < length xs
  passes : (g : X → Bool) → list_all g (remove xs place) ≡ true → list_all g ys ≡ true

choice_lacks : {X : Type 0} (k : ℕ) (xs ys : List X) → Has (choose k xs) ys → k < length xs → Lacks xs ys
choice_lacks zero xs ys (inl is) few = record { place = 0; within = few; passes = λ g all. ap (list_all g) (sym is) }
choice_lacks zero xs ys (inr has) few = absurd has
choice_lacks (suc k) [] ys has few = absurd has
choice_lacks (suc k) (x ∷ xs) ys has few =
    elim (of_append (map (λ rest. x ∷ rest) (choose k xs)) (choose (suc k) xs) ys has) [
      | inl here ↦
          let rest = of_map (λ rest. x ∷ rest) (choose k xs) ys here in
          let later = choice_lacks k xs rest.0 rest.1 (omega (arith, few)) in
          record {
            place = suc later.place;
            within = omega (arith, later.within);
            passes = λ g all.
                let parts = and_parts (g x) (list_all g (remove xs later.place)) all in
                ap (list_all g) (sym rest.2) ∙ and_from (g x) (list_all g rest.0) parts.0 (later.passes g parts.1);
          }
      | inr there ↦ record { place = 0; within = omega (arith, few); passes = λ g all. choice_passes g (suc k) xs ys there all }
    ]

-- what some row has, it has in part
had_in_part : (rows : List (List (Option ℕ))) (tuple part : List (ℕ × ℕ)) → ((g : ℕ × ℕ → Bool) → list_all g tuple ≡ true → list_all g part ≡ true)
    → is_had rows tuple ≡ true → is_had rows part ≡ true
had_in_part rows tuple part passes had =
    let row = of_any (has_tuple tuple) rows had in
    any_member (has_tuple part) rows row.0 row.1 (passes (gives row.0) row.2)

-- proper parts are had exactly if those of one pair less are
pub parts_had : (rows : List (List (Option ℕ))) (tuple : List (ℕ × ℕ)) → 1 < length tuple
    → list_all (is_had rows) (proper_parts tuple) ≡ list_all (λ i. is_had rows (remove tuple i)) (range_with_len 0 (length tuple))
parts_had rows tuple long =
    same_answer (list_all (is_had rows) (proper_parts tuple)) (list_all (λ i. is_had rows (remove tuple i)) (range_with_len 0 (length tuple)))
    (λ all. all_pass (λ i. is_had rows (remove tuple i)) (range_with_len 0 (length tuple)) (λ i has.
    let within = (of_range 0 (length tuple) i has).1 in
    passes_all (is_had rows) (proper_parts tuple) (remove tuple i) all
    (has_flat (λ k. choose k tuple) (range_with_len 1 (length tuple - 1)) (length tuple - 1) (remove tuple i)
    (has_range 1 (length tuple - 1) (length tuple - 1) (omega (arith, long)) (omega (arith, long)))
    (choice_of_others tuple i (length tuple - 1) (omega (arith, within)) (omega (arith, long))))))
    (λ all. all_pass (is_had rows) (proper_parts tuple) (λ part has.
    let of = of_flat (λ k. choose k tuple) (range_with_len 1 (length tuple - 1)) part has in
    let few = (of_range 1 (length tuple - 1) of.0 of.1).1 in
    let lacks = choice_lacks of.0 tuple part of.2 (omega (arith, few, long)) in
    had_in_part rows (remove tuple lacks.place) part lacks.passes
    (passes_all (λ i. is_had rows (remove tuple i)) (range_with_len 0 (length tuple)) lacks.place all
    (has_range 0 (length tuple) lacks.place (omega arith) (omega (arith, lacks.within))))))

-- a part of what a failing row has is suspicious exactly if no passing row has it
none_passes : {X : Type 0} (f g : X → Bool) (xs : List X) → ((x : X) → Has xs x → f x ≡ not (g x)) → not (list_any f xs) ≡ list_all g xs
none_passes f g [] each = refl
none_passes f g (x ∷ xs) each = at (f x) (g x) (each x (inl refl)) (none_passes f g xs (λ y has. each y (inr has)))
  where
    at : (a b : Bool) → a ≡ not b → not (list_any f xs) ≡ list_all g xs → not (a || list_any f xs) ≡ (b && list_all g xs)
    at true true is later = absurd (false≢true (sym is))
    at true false is later = refl
    at false true is later = later
    at false false is later = absurd (false≢true is)

-- the smallest suspicious tuples are the edges that a failing row has
pub smallest_are_edges : (passing failing : List (List (Option ℕ))) (tuple : List (ℕ × ℕ))
    → is_smallest passing failing tuple ≡ (is_had failing tuple && is_edge passing tuple)
smallest_are_edges passing failing tuple = at (is_had failing tuple) refl
  where
    parts : is_had failing tuple ≡ true → not (list_any (is_suspicious passing failing) (proper_parts tuple)) ≡ list_all (is_had passing) (proper_parts tuple)
    parts had = none_passes (is_suspicious passing failing) (is_had passing) (proper_parts tuple) (λ part has.
        let of = of_flat (λ k. choose k tuple) (range_with_len 1 (length tuple - 1)) part has in
        ap (λ b. b && not (is_had passing part)) (had_in_part failing tuple part (λ g all. choice_passes g of.0 tuple part of.2 all) had))

    at : (b : Bool) → is_had failing tuple ≡ b → ((b && not (is_had passing tuple)) && not (list_any (is_suspicious passing failing) (proper_parts tuple)))
        ≡ (b && is_edge passing tuple)
    at false had = refl
    at true had = ap (λ b. not (is_had passing tuple) && b) (parts had)

-- the parts of one pair less, one after another
pub others_more : (f : ℕ → Bool) (i : ℕ) → list_all f (range_with_len 0 i) ≡ true → f i ≡ true → list_all f (range_with_len 0 (i + 1)) ≡ true
others_more f i before here =
    ap (list_all f) (range_with_len_more 0 i) ∙ list_all-append f (range_with_len 0 i) ((0 + i) ∷ [])
    ∙ and_from (list_all f (range_with_len 0 i)) (f (0 + i) && true) before (and_from (f (0 + i)) true (ap f (zero-add i) ∙ here) refl)

pub others_fail : (f : ℕ → Bool) (n i : ℕ) → i < n → f i ≡ false → false ≡ list_all f (range_with_len 0 n)
others_fail f n i within fails =
    sym (false_from_ne_true (list_all f (range_with_len 0 n)) (λ all. false≢true (sym fails ∙ passes_all f (range_with_len 0 n) i all (has_range 0 n i (omega arith) (omega (arith, within))))))

-- so a tuple that no passing row has is an edge if each of them is had
pub edge_from_others : (passing : List (List (Option ℕ))) (tuple : List (ℕ × ℕ)) (had each : Bool) → had ≡ is_had passing tuple → had ≡ false → 2 ≤ length tuple
    → each ≡ list_all (λ i. is_had passing (remove tuple i)) (range_with_len 0 (length tuple)) → each ≡ is_edge passing tuple
edge_from_others passing tuple had each is none long others =
    others ∙ sym (parts_had passing tuple (omega (arith, long)))
    ∙ ap (λ b. not b && list_all (is_had passing) (proper_parts tuple)) (sym none ∙ is)
