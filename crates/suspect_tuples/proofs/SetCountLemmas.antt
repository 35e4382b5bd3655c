-- The numbers of sets, by one item more.
use Rattle.std.proofs.Common.{◌≡◌, ℕ, zero, suc, ◌+◌, ◌-◌, ◌<◌, ◌≤◌, false, List, [], ◌∷◌, map, length, get_or, refl, sym, ap, ◌∙◌, arith, zero-add, length-append, ◌++◌}
use Rattle.std.specs.Prelude.{◌==◌, if◌then◌else◌, replicate}
use Rattle.std.specs.List.{flat_map, range_with_len}
use Rattle.std.proofs.lemmas.Bool.Decides.{nat_tests}
use Rattle.std.proofs.lemmas.List.{length-map, map-append, get_or-replicate, length-replicate}
use Rattle.std.proofs.lemmas.List.FromFn.{length-map-range_with_len, get_or-map-range_with_len}
use Rattle.value_text.proofs.ListLemmas.{range_with_len_more}
use Rattle.definitions.specs.believed.Demand.{choose}
use Rattle.tuple_index.specs.believed.PlanFault.{saturated}
use Rattle.suspect_tuples.specs.SetCounts.{AreCounts, next_count, ways_up_to}
use Rattle.suspect_tuples.proofs.WalkLemmas.{range_step}

-- one number more of items to take
ways_more : (k : ℕ) (items : List ℕ) → ways_up_to (suc k) items ≡ ways_up_to k items + length (choose (suc k) items)
ways_more k items =
    let next : suc k ≡ k + 1 = omega arith in
    let first : 1 + k ≡ suc k = omega arith in
    ap (λ n. ways_up_to n items) next ∙ ap length (range_step (λ j. choose j items) 1 k)
    ∙ length-append (flat_map (λ j. choose j items) (range_with_len 1 k)) (choose (1 + k) items)
    ∙ ap (λ n. ways_up_to k items + length (choose n items)) first

-- of no items there is none
ways_of_none : (k : ℕ) → ways_up_to k [] ≡ 0
ways_of_none zero = refl
ways_of_none (suc k) = omega (arith, ways_more k [], ways_of_none k)

-- one item more: the ways without it, those with it and others, and it alone
ways_of_one_more : (k item : ℕ) (items : List ℕ) → ways_up_to (suc k) (item ∷ items) ≡ ways_up_to k items + ways_up_to (suc k) items + 1
ways_of_one_more zero item items =
    let parts = length-append (map (λ rest. item ∷ rest) (choose 0 items)) (choose 1 items) in
    omega (arith, ways_more 0 (item ∷ items), ways_more 0 items, parts)
ways_of_one_more (suc k) item items =
    let parts = length-append (map (λ rest. item ∷ rest) (choose (suc k) items)) (choose (suc (suc k)) items) in
    let mapped = length-map (choose (suc k) items) (λ rest. item ∷ rest) in
    omega (arith, ways_of_one_more k item items, ways_more (suc k) (item ∷ items), ways_more (suc k) items, ways_more k items, parts, mapped)

-- the row of no items
pub counts_begin : (most : ℕ) (row : List ℕ) → row ≡ replicate (most + 1) 0 → AreCounts most 0 row
counts_begin most row made = record {
  long = ap length made ∙ length-replicate (most + 1) 0;
  counts = λ list k none within.
      ap (λ r. get_or r k 0) made ∙ get_or-replicate (most + 1) k 0 0 (omega (arith, within)) ∙ sym (ap saturated (empty list none k));
}
  where
    empty : (list : List ℕ) → length list ≡ 0 → (k : ℕ) → ways_up_to k list ≡ 0
    empty [] none k = ways_of_none k
    empty (item ∷ list) none k = absurd (omega (arith, none))

-- and of one item more
pub counts_more : (most items : ℕ) (row next : List ℕ) → AreCounts most items row → next ≡ map (next_count row) (range_with_len 0 (length row))
    → AreCounts most (items + 1) next
counts_more most items row next are made = record {
  long = ap length made ∙ length-map-range_with_len (next_count row) 0 (length row) ∙ are.long;
  counts = λ list k many within.
      let inside : k < length row = omega (arith, are.long, within) in
      ap (λ r. get_or r k 0) made ∙ get_or-map-range_with_len (next_count row) 0 (length row) k k 0 inside (zero-add k) ∙ at list k many within;
}
  where
    at : (list : List ℕ) (k : ℕ) → length list ≡ items + 1 → k ≤ most → next_count row k ≡ saturated (ways_up_to k list)
    at [] k many within = absurd (omega (arith, many))
    at (item ∷ list) zero many within = refl
    at (item ∷ list) (suc k) many within =
        let same : length list ≡ items = omega (arith, many) in
        let less : suc k - 1 ≡ k = omega arith in
        let test : (suc k == 0) ≡ false = grind (arith, nat_tests) in
        let before = ap (λ i. get_or row i 0) less ∙ are.counts list k same (omega (arith, within)) in
        let here = are.counts list (suc k) same within in
        ap (λ b. if b then 0 else saturated (saturated (get_or row (suc k - 1) 0 + get_or row (suc k) 0) + 1)) test
        ∙ omega (arith, before, here, ways_of_one_more k item list)

-- the next place of a row
pub counts_push : (row next more : List ℕ) (k : ℕ) → next ≡ map (next_count row) (range_with_len 0 k) → more ≡ next ++ next_count row k ∷ []
    → more ≡ map (next_count row) (range_with_len 0 (k + 1))
counts_push row next more k so_far pushed =
    pushed ∙ ap (λ ns. ns ++ next_count row k ∷ []) so_far
    ∙ sym (ap (map (next_count row)) (range_with_len_more 0 k) ∙ map-append (next_count row) (range_with_len 0 k) ((0 + k) ∷ [])
    ∙ ap (λ n. map (next_count row) (range_with_len 0 k) ++ next_count row n ∷ []) (zero-add k))
