-- The counted choices are those listed.
use Rattle.std.proofs.Common.{◌≡◌, ℕ, zero, suc, ◌+◌, ◌*◌, min, List, [], ◌∷◌, ◌++◌, map, length, sum_by, replicate, ◌∙◌, refl, sym, ap, arith, length-append}
use Rattle.std.specs.List.{flat_map}
use Rattle.std.proofs.lemmas.List.{length-map, map-append}
use Rattle.std.proofs.lemmas.List.Concat.{flat_map-append}
use Rattle.std.proofs.lemmas.List.Sums.{sum_by-cons}
use Rattle.cov_model.specs.declared.demand.Group.{Group}
use Rattle.cov_model.specs.believed.Sound.{ModelView}
use Rattle.definitions.specs.believed.Demand.{choose, unions, units, singles, choices}
use Rattle.tuple_index.specs.Counts.{products, group_ways, unit_counts, choice_count}
use Rattle.tuple_index.proofs.PlaceLemmas.{length-flat_map_same}
use Rattle.std.proofs.lemmas.List.Folds.{flat_map-map}

pub length-choose : {X : Type 0} (k : ℕ) (xs : List X) → length (choose k xs) ≡ products k (replicate (length xs) 1)
length-choose zero xs = refl
length-choose (suc k) [] = refl
length-choose (suc k) (x ∷ xs) =
    let with_it = length-choose k xs in
    let without = length-choose (suc k) xs in
    let parts = length-append (map (λ rest. x ∷ rest) (choose k xs)) (choose (suc k) xs) in
    let mapped = length-map (choose k xs) (λ rest. x ∷ rest) in
    omega (arith, with_it, without, parts, mapped)

length-unions : (ways : List (List ℕ)) (taken : List (List (List ℕ))) → length (unions (ways ∷ taken)) ≡ length ways * length (unions taken)
length-unions ways taken =
    length-flat_map_same (λ way. map (λ others. way ++ others) (unions taken)) (length (unions taken)) ways
    (λ way. length-map (unions taken) (λ others. way ++ others))

-- a unit before each of these choices of units
length-with_unit : (ways : List (List ℕ)) (picks : List (List (List (List ℕ)))) → length (flat_map (λ taken. unions (ways ∷ taken)) picks)
    ≡ length ways * length (flat_map unions picks)
length-with_unit ways [] = grind arith
length-with_unit ways (taken ∷ picks) =
    let rest = length-with_unit ways picks in
    let own = length-unions ways taken in
    let left = length-append (unions (ways ∷ taken)) (flat_map (λ taken. unions (ways ∷ taken)) picks) in
    let right = length-append (unions taken) (flat_map unions picks) in
    let spread : length ways * (length (unions taken) + length (flat_map unions picks)) ≡ length ways * length (unions taken) + length ways * length
    (flat_map unions picks) = grind arith in
    left ∙ ap (λ n. n + length (flat_map (λ taken. unions (ways ∷ taken)) picks)) own ∙ ap (λ n. length ways * length (unions taken) + n) rest
    ∙ sym spread ∙ ap (λ n. length ways * n) (sym right)

pub length-unit_unions : (k : ℕ) (all : List (List (List ℕ))) → length (flat_map unions (choose k all)) ≡ products k (map length all)
length-unit_unions zero all = refl
length-unit_unions (suc k) [] = refl
length-unit_unions (suc k) (ways ∷ all) =
    let split = flat_map-append unions (map (λ rest. ways ∷ rest) (choose k all)) (choose (suc k) all) in
    let front = flat_map-map unions (λ rest. ways ∷ rest) (choose k all) in
    ap length split
    ∙ length-append (flat_map unions (map (λ rest. ways ∷ rest) (choose k all))) (flat_map unions (choose (suc k) all))
    ∙ ap (λ ys. length ys + length (flat_map unions (choose (suc k) all))) front
    ∙ ap (λ n. n + length (flat_map unions (choose (suc k) all))) (length-with_unit ways (choose k all) ∙ ap (λ n. length ways * n) (length-unit_unions k all))
    ∙ ap (λ n. length ways * products k (map length all) + n) (length-unit_unions (suc k) all)

lengths_of-groups : (groups : List Group) → map length (map (λ sub. choose sub.order sub.members) groups) ≡ map group_ways groups
lengths_of-groups [] = refl
lengths_of-groups (group ∷ groups) =
    ap (λ n. n ∷ map length (map (λ sub. choose sub.order sub.members) groups)) (length-choose group.order group.members)
    ∙ ap (λ ns. group_ways group ∷ ns) (lengths_of-groups groups)

lengths_of-singles : (ps : List ℕ) → map length (map (λ p. (p ∷ []) ∷ []) ps) ≡ replicate (length ps) 1
lengths_of-singles [] = refl
lengths_of-singles (p ∷ ps) = ap (λ ns. 1 ∷ ns) (lengths_of-singles ps)

pub lengths-units : (m : ModelView) → map length (units m) ≡ unit_counts m
lengths-units m =
    map-append length (map (λ sub. choose sub.order sub.members) m.demand.subs) (map (λ p. (p ∷ []) ∷ []) (singles m))
    ∙ ap (λ ns. ns ++ map length (map (λ p. (p ∷ []) ∷ []) (singles m))) (lengths_of-groups m.demand.subs)
    ∙ ap (λ ns. map group_ways m.demand.subs ++ ns) (lengths_of-singles (singles m))

length-subsets : (groups : List Group) → length (flat_map (λ relation. choose relation.order relation.members) groups) ≡ sum_by group_ways groups
length-subsets [] = refl
length-subsets (group ∷ groups) =
    length-append (choose group.order group.members) (flat_map (λ relation. choose relation.order relation.members) groups)
    ∙ ap (λ n. n + length (flat_map (λ relation. choose relation.order relation.members) groups)) (length-choose group.order group.members)
    ∙ ap (λ n. group_ways group + n) (length-subsets groups)
    ∙ sym (sum_by-cons group_ways group groups)

-- as many choices are counted as are listed
pub length-choices : (m : ModelView) → length (choices m) ≡ choice_count m
length-choices m =
    let k = min m.demand.order (length (units m)) in
    let relations = flat_map (λ relation. choose relation.order relation.members) m.demand.relations in
    let as_many : length (units m) ≡ length (unit_counts m) = sym (length-map (units m) length) ∙ ap length (lengths-units m) in
    length-append (flat_map unions (choose k (units m))) relations
    ∙ ap (λ n. n + length relations) (length-unit_unions k (units m) ∙ ap (products k) (lengths-units m)
    ∙ ap (λ n. products (min m.demand.order n) (unit_counts m)) as_many)
    ∙ ap (λ n. products (min m.demand.order (length (unit_counts m))) (unit_counts m) + n) (length-subsets m.demand.relations)
