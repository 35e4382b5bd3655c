-- What an extendable partial row contains is extendable: each of its completions is one of the part's.
use Rattle.std.proofs.Common.{◌≡◌, ℕ, Bool, true, false, ◌||◌, cond, List, [], ◌∷◌, map, Option, Some, None, nat_eq, filter, flat_map, ◌∙◌, sym, ap, subst, refl, arith}
use Rattle.std.specs.List.{list_any}
use Rattle.std.proofs.lemmas.Bool.{false≢true}
use Rattle.std.proofs.lemmas.Grind.{common_steps}
use Rattle.std.proofs.lemmas.List.Folds.{list_any-append}
use Rattle.value_text.proofs.ListLemmas.{list_any-map}
use Rattle.cov_model.specs.believed.Rows.{contains}
use Rattle.cov_model.proofs.CellLemmas.{contains-trans}
use Rattle.cov_model.specs.believed.Slices.{slice_values}
use Rattle.definitions.specs.believed.Completion.{completions, cell_values, meets_rules}
use Rattle.definitions.specs.Laws.{ExtendableContains}
use Rattle.definitions.proofs.Contained.{left, right}

either : (a b c d : Bool) → (a ≡ true → c ≡ true) → (b ≡ true → d ≡ true) → (a || b) ≡ true → (c || d) ≡ true
either true b c d f g h = ap (λ x. x || d) (f refl)
either false b true d f g h = refl
either false b false d f g h = g h

-- some row of the second lists passes the test where one of the first does
any_flat : (test : List (Option ℕ) → Bool) (first then : ℕ → List (List (Option ℕ))) (values : List ℕ)
    → ((v : ℕ) → list_any test (first v) ≡ true → list_any test (then v) ≡ true)
    → list_any test (flat_map first values) ≡ true → list_any test (flat_map then values) ≡ true
any_flat test first then [] each h = h
any_flat test first then (v ∷ values) each h =
    list_any-append test (then v) (flat_map then values)
    ∙ either (list_any test (first v)) (list_any test (flat_map first values)) _ _ (each v) (any_flat test first then values each)
    (sym (list_any-append test (first v) (flat_map first values)) ∙ h)

-- also where the first have fewer values
any_fewer : (test : List (Option ℕ) → Bool) (rows : ℕ → List (List (Option ℕ))) (keep : ℕ → Bool) (values : List ℕ)
    → list_any test (flat_map rows (filter keep values)) ≡ true → list_any test (flat_map rows values) ≡ true
any_fewer test rows keep [] h = h
any_fewer test rows keep (v ∷ values) h =
    list_any-append test (rows v) (flat_map rows values) ∙ at (keep v) (any_fewer test rows keep values) h
  where
    at : (b : Bool) → (list_any test (flat_map rows (filter keep values)) ≡ true → list_any test (flat_map rows values) ≡ true)
        → list_any test (flat_map rows (cond b (v ∷ filter keep values) (filter keep values))) ≡ true
        → (list_any test (rows v) || list_any test (flat_map rows values)) ≡ true
    at true later h =
        either (list_any test (rows v)) (list_any test (flat_map rows (filter keep values))) _ _ (λ here. here) later
        (sym (list_any-append test (rows v) (flat_map rows (filter keep values))) ∙ h)
    at false later h = either false true (list_any test (rows v)) _ (λ here. absurd (false≢true here)) (λ here. later h) refl

any_cell : (test : List (Option ℕ) → Bool) (rows : ℕ → List (List (Option ℕ))) (values : List ℕ) (cell : Option ℕ)
    → list_any test (flat_map rows (cell_values values cell)) ≡ true → list_any test (flat_map rows values) ≡ true
any_cell test rows values None h = h
any_cell test rows values (Some v) h = any_fewer test rows (λ w. nat_eq w v) values h

any_map : (test : List (Option ℕ) → Bool) (v : ℕ) (first then : List (List (Option ℕ)))
    → (list_any (λ row. test (Some v ∷ row)) first ≡ true → list_any (λ row. test (Some v ∷ row)) then ≡ true)
    → list_any test (map (λ row. Some v ∷ row) first) ≡ true → list_any test (map (λ row. Some v ∷ row) then) ≡ true
any_map test v first then each h =
    list_any-map test (λ row. Some v ∷ row) then ∙ each (sym (list_any-map test (λ row. Some v ∷ row) first) ∙ h)

-- the rows that begin with a value
abbrev with_first : List (List (Option ℕ)) → ℕ → List (List (Option ℕ))
with_first rows v = map (λ row. Some v ∷ row) rows

any_completion : (test : List (Option ℕ) → Bool) (lists : List (List ℕ)) (cells part : List (Option ℕ)) → contains cells part ≡ true
    → list_any test (completions lists cells) ≡ true → list_any test (completions lists part) ≡ true
any_completion test [] cells part contained h =
    at (contains [] cells) (contains [] part) (λ holds. contains-trans [] cells part holds contained) h
  where
    at : (a b : Bool) → (a ≡ true → b ≡ true) → list_any test (cond a ([] ∷ []) []) ≡ true → list_any test (cond b ([] ∷ []) []) ≡ true
    at true true f h = h
    at true false f h = absurd (false≢true (f refl))
    at false b f h = absurd (false≢true h)
any_completion test (values ∷ lists) [] [] contained h = h
any_completion test (values ∷ lists) [] (None ∷ part) contained h =
    any_flat test (with_first (completions lists [])) (with_first (completions lists part)) values
    (λ v. any_map test v (completions lists []) (completions lists part) (any_completion (λ row. test (Some v ∷ row)) lists [] part contained)) h
any_completion test (values ∷ lists) [] (Some w ∷ part) contained h = absurd (false≢true contained)
any_completion test (values ∷ lists) (cell ∷ cells) [] contained h =
    any_cell test (with_first (completions lists [])) values cell
    (any_flat test (with_first (completions lists cells)) (with_first (completions lists [])) (cell_values values cell)
    (λ v. any_map test v (completions lists cells) (completions lists []) (any_completion (λ row. test (Some v ∷ row)) lists cells [] refl)) h)
any_completion test (values ∷ lists) (cell ∷ cells) (None ∷ part) contained h =
    any_cell test (with_first (completions lists part)) values cell
    (any_flat test (with_first (completions lists cells)) (with_first (completions lists part)) (cell_values values cell)
    (λ v. any_map test v (completions lists cells) (completions lists part) (any_completion (λ row. test (Some v ∷ row)) lists cells part contained)) h)
any_completion test (values ∷ lists) (None ∷ cells) (Some w ∷ part) contained h = absurd (false≢true contained)
any_completion test (values ∷ lists) (Some u ∷ cells) (Some w ∷ part) contained h =
    let equal : nat_eq u w ≡ true = left (nat_eq u w) _ contained in
    let same : u ≡ w = grind (arith, common_steps) in
    any_flat test (with_first (completions lists cells)) (with_first (completions lists part)) (cell_values values (Some w))
    (λ v. any_map test v (completions lists cells) (completions lists part)
    (any_completion (λ row. test (Some v ∷ row)) lists cells part (right (nat_eq u w) _ contained)))
    (subst (λ (x : ℕ). list_any test (flat_map (with_first (completions lists cells)) (cell_values values (Some x))) ≡ true) same h)

pub extendable_contains : ExtendableContains
extendable_contains m slice cells part contained h = any_completion (meets_rules m) (slice_values m slice) cells part contained h
