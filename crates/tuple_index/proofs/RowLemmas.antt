-- Rows of sums of products.
use Rattle.std.proofs.Common.{false, ◌≡◌, ℕ, zero, suc, ◌+◌, ◌*◌, ◌-◌, ◌<◌, ◌≤◌, ◌^◌, min, sum_by, replicate, List, [], ◌∷◌}
use Rattle.std.proofs.Common.{◌++◌, map, drop, length, get_or, ◌∙◌, refl, sym, subst, ap, arith, zero-add}
use Rattle.std.specs.Prelude.{◌==◌, if◌then◌else◌}
use Rattle.std.specs.List.{range_with_len}
use Rattle.std.proofs.lemmas.Bool.Decides.{nat_tests}
use Rattle.std.proofs.lemmas.List.{drop_more, at_drop_more, at_drop_all, length-map}
use Rattle.std.proofs.lemmas.List.Sums.{sum_by-cons}
use Rattle.cov_model.specs.declared.demand.Group.{Group}
use Rattle.cov_model.specs.believed.Sound.{ModelView}
use Rattle.definitions.specs.believed.Demand.{choices, singles}
use Rattle.std.proofs.lemmas.List.FromFn.{length-map-range_with_len, get_or-map-range_with_len}
use Rattle.tuple_index.specs.Counts.{IsRow, next_entry, products, group_ways, unit_counts}
use Rattle.tuple_index.specs.believed.PlanFault.{saturated}
use Rattle.tuple_index.proofs.SaturatedLemmas.{saturated-both, saturated-mul, saturated-product}
use Rattle.tuple_index.proofs.CountLemmas.{length-choices}

-- the row of one count more
pub next_is_row : (k count : ℕ) (counts row next : List ℕ) → IsRow k counts row → next ≡ map (next_entry count row) (range_with_len 0 (length row))
    → IsRow k (count ∷ counts) next
next_is_row k count counts row next is_row made = record {
  long = ap length made ∙ length-map-range_with_len (next_entry count row) 0 (length row) ∙ is_row.long;
  sums = λ j within.
      let inside : j < length row = omega (arith, is_row.long, within) in
      ap (λ r. get_or r j 0) made ∙ get_or-map-range_with_len (next_entry count row) 0 (length row) j j 0 inside (zero-add j)
      ∙ entry j within;
}
  where
    entry : (j : ℕ) → j ≤ k → next_entry count row j ≡ saturated (products j (count ∷ counts))
    entry zero within = refl
    entry (suc j) within =
        let less : suc j - 1 ≡ j = omega arith in
        let before = ap (λ i. get_or row i 0) less ∙ is_row.sums j (omega (arith, within)) in
        let here = is_row.sums (suc j) within in
        let test : (suc j == 0) ≡ false = grind (arith, nat_tests) in
        ap (λ b. if b then 1 else saturated (saturated (count * get_or row (suc j - 1) 0) + get_or row (suc j) 0)) test
        ∙ ap (λ n. saturated (saturated (count * n) + get_or row (suc j) 0)) before
        ∙ ap (λ n. saturated (saturated (count * saturated (products j counts)) + n)) here
        ∙ ap (λ n. saturated (n + saturated (products (suc j) counts))) (saturated-product count (products j counts))
        ∙ saturated-both (count * products j counts) (products (suc j) counts)

-- the row of the counts from one place earlier on
pub row_step : (k left : ℕ) (counts row next : List ℕ) (count : ℕ) → 0 < left → left ≤ length counts → IsRow k (drop left counts) row
    → count ≡ get_or counts (left - 1) 0 → next ≡ map (next_entry count row) (range_with_len 0 (length row)) → IsRow k (drop (left - 1) counts) next
row_step k left counts row next count some within is_row read made =
    let same : left - 1 + 1 ≡ left = omega (arith, some) in
    let opened : drop (left - 1) counts ≡ count ∷ drop left counts =
    drop_more counts (left - 1) 0 (omega (arith, some, within)) ∙ ap (λ n. get_or counts (left - 1) 0 ∷ drop n counts) same
    ∙ ap (λ n. n ∷ drop left counts) (sym read) in
    subst (λ cs. IsRow k cs next) (sym opened) (next_is_row k count (drop left counts) row next is_row made)

-- counts may be saturated each before they are multiplied
pub products-saturated : (k : ℕ) (counts : List ℕ) → saturated (products k (map saturated counts)) ≡ saturated (products k counts)
products-saturated zero counts = refl
products-saturated (suc k) [] = refl
products-saturated (suc k) (n ∷ counts) =
    let with_it = products-saturated k counts in
    let without = products-saturated (suc k) counts in
    sym (saturated-both (saturated n * products k (map saturated counts)) (products (suc k) (map saturated counts)))
    ∙ ap (λ x. saturated (x + saturated (products (suc k) (map saturated counts)))) (factor n (products k (map saturated counts)) (products k counts) with_it)
    ∙ ap (λ x. saturated (saturated (n * products k counts) + x)) without
    ∙ saturated-both (n * products k counts) (products (suc k) counts)
  where
    factor : (n a b : ℕ) → saturated a ≡ saturated b → saturated (saturated n * a) ≡ saturated (n * b)
    factor n a b same =
        let one : saturated n * a ≡ saturated n * a + 0 = omega arith in
        let back : n * a + 0 ≡ n * a = omega arith in
        ap saturated one ∙ saturated-mul n a 0 ∙ ap saturated back ∙ sym (saturated-product n a) ∙ ap (λ x. saturated (n * x)) same ∙ saturated-product n b

-- the saturated counts of the units
saturated_counts : (groups : List Group) (ps : List ℕ) → map (λ group. saturated (group_ways group)) groups ++ map (λ p. 1) ps
    ≡ map saturated (map group_ways groups ++ replicate (length ps) 1)
saturated_counts [] [] = refl
saturated_counts [] (p ∷ ps) = ap (λ ns. 1 ∷ ns) (saturated_counts [] ps)
saturated_counts (group ∷ groups) ps = ap (λ ns. saturated (group_ways group) ∷ ns) (saturated_counts groups ps)

-- the choices, counted
pub count_is : (m : ModelView) (counts : List ℕ) (taken unions relations : ℕ) → counts ≡ map (λ group. saturated (group_ways group)) m.demand.subs
    ++ map (λ p. 1) (singles m)
    → taken ≡ min (length counts) m.demand.order → unions ≡ saturated (products taken counts) → relations ≡ saturated (sum_by group_ways m.demand.relations)
    → saturated (unions + relations) ≡ saturated (length (choices m))
count_is m counts taken unions relations listed least multiplied subsets =
    let as_told : counts ≡ map saturated (unit_counts m) = listed ∙ saturated_counts m.demand.subs (singles m) in
    let long : length counts ≡ length (unit_counts m) = ap length as_told ∙ length-map (unit_counts m) saturated in
    let k = min m.demand.order (length (unit_counts m)) in
    let same : taken ≡ k = omega (arith, least, long) in
    let exact : unions ≡ saturated (products k (unit_counts m)) =
    multiplied ∙ ap (λ n. saturated (products n counts)) same ∙ ap (λ ns. saturated (products k ns)) as_told ∙ products-saturated k (unit_counts m) in
    ap (λ n. saturated (n + relations)) exact ∙ ap (λ n. saturated (saturated (products k (unit_counts m)) + n)) subsets
    ∙ saturated-both (products k (unit_counts m)) (sum_by group_ways m.demand.relations) ∙ ap saturated (sym (length-choices m))

-- one relation more, and the end
pub relation_step : (groups : List Group) (i : ℕ) (group : Group) (count ways next whole : ℕ) → i < length groups → group ≡ get_or groups i group
    → ways ≡ saturated (group_ways group)
    → next ≡ saturated (count + ways) → saturated (count + sum_by group_ways (drop i groups)) ≡ whole → saturated (next + sum_by group_ways (drop (i + 1) groups)) ≡ whole
relation_step groups i group count ways next whole within read counted added so_far =
    let opened : sum_by group_ways (drop i groups) ≡ group_ways group + sum_by group_ways (drop (i + 1) groups) =
    at_drop_more (sum_by group_ways) groups i group within ∙ sum_by-cons group_ways (get_or groups i group) (drop (i + 1) groups)
    ∙ ap (λ g. group_ways g + sum_by group_ways (drop (i + 1) groups)) (sym read) in
    omega (arith, opened, counted, added, so_far)

pub relation_end : (groups : List Group) (i count whole : ℕ) → length groups ≤ i → count ≤ 2 ^ 64 - 1 → saturated (count + sum_by group_ways (drop i groups))
    ≡ whole → count ≡ whole
relation_end groups i count whole past fits so_far =
    let none : sum_by group_ways (drop i groups) ≡ 0 = at_drop_all (sum_by group_ways) groups i past in
    omega (arith, none, fits, so_far)
