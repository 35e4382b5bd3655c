-- A search that goes straight on finds what the whole search finds.
use Rattle.std.proofs.Common.{◌≡◌, ℕ, zero, suc, ◌+◌, ◌<◌, ◌≤◌, Bool, true, false, not, if◌then◌else◌, List, [], ◌∷◌, length, drop, get_or, Option}
use Rattle.std.proofs.Common.{◌∙◌, sym, ap, refl, arith}
use Rattle.std.proofs.lemmas.List.{drop_all, drop_more}
use Rattle.cov_model.specs.believed.Rows.{is_assigned, with_value}
use Rattle.definitions.specs.believed.Search.{Outcome, constrained_params, is_failing, try_values, visit}
use Rattle.feasibility.specs.Descent.{ComesTo}
use Rattle.feasibility.specs.Path.{reached, reached_by}
use Rattle.feasibility.specs.Tree.{TreeView}
use Rattle.feasibility.proofs.Visits.{failing_outcome, first, node_outcome}

pub comes_self : (t : TreeView) (params : List ℕ) (row : List (Option ℕ)) → ComesTo t params params row row 0
comes_self t params row = record {
  found = λ h. h;
  cost = λ h. omega arith;
  path = λ h. refl;
}

pub comes_on : (t : TreeView) (params left rest : List ℕ) (row cells after : List (Option ℕ)) (n k : ℕ) → ComesTo t params left row cells n
    → ComesTo t left rest cells after k → ComesTo t params rest row after (n + k)
comes_on t params left rest row cells after n k one two = record {
  found = λ h. one.found (two.found h);
  cost = λ h. omega (arith, one.cost (two.found h), two.cost h);
  path = λ h. one.path (two.found h) ∙ two.path h;
}

-- a parameter that has a value is passed
pub comes_past : (t : TreeView) (i : ℕ) (cells : List (Option ℕ)) → i < length (constrained_params t.model)
    → is_assigned cells (get_or (constrained_params t.model) i 0) ≡ true
    → ComesTo t (drop i (constrained_params t.model)) (drop (i + 1) (constrained_params t.model)) cells cells 0
comes_past t i cells within assigned =
    let params = constrained_params t.model in
    let p = get_or params i 0 in
    let rest = drop (i + 1) params in
    let outcome : visit t.model t.values (drop i params) cells ≡ visit t.model t.values rest cells =
    ap (λ (list : List ℕ). visit t.model t.values list cells) (drop_more params i 0 within)
    ∙ ap (λ (b : Bool). if b then visit t.model t.values rest cells
    else if is_failing t.model t.values cells then record { found = false; cost = 1 }
    else node_outcome (visit t.model t.values rest) cells p (get_or t.values p [])) assigned in
    let path : reached t.model t.values (drop i params) cells ≡ reached t.model t.values rest cells =
    ap (λ (list : List ℕ). reached t.model t.values list cells) (drop_more params i 0 within)
    ∙ ap (λ (b : Bool). if b then reached t.model t.values rest cells
    else reached_by (visit t.model t.values rest) (reached t.model t.values rest) cells p (get_or t.values p [])) assigned in
    record {
      found = λ h. ap (λ (o : Outcome). o.found) outcome ∙ h;
      cost = λ h. omega (arith, ap (λ (o : Outcome). o.cost) outcome);
      path = λ h. path;
    }

-- the values before a place lead to nodes that fail, and the one there to a completion
record Takes (visited : List (Option ℕ) → Outcome) (reach : List (Option ℕ) → List (Option ℕ)) (cells : List (Option ℕ)) (p : ℕ) (values : List ℕ)
    (k : ℕ) : Type 0 where
  found : (try_values visited cells p values).found ≡ true
  cost : (try_values visited cells p values).cost ≡ k + (visited (with_value cells p (get_or values k 0))).cost
  path : reached_by visited reach cells p values ≡ reach (with_value cells p (get_or values k 0))

takes : (visited : List (Option ℕ) → Outcome) (reach : List (Option ℕ) → List (Option ℕ)) (cells : List (Option ℕ)) (p : ℕ) (values : List ℕ) (k : ℕ)
    → k < length values
    → ((j : ℕ) → j < k → visited (with_value cells p (get_or values j 0)) ≡ record { found = false; cost = 1 })
    → (visited (with_value cells p (get_or values k 0))).found ≡ true → Takes visited reach cells p values k
takes visited reach cells p [] k within dead is = absurd (omega (arith, within))
takes visited reach cells p (v ∷ values) zero within dead is =
    let one = first visited reach cells p v values true is in
    record {
      found = one.found;
      cost = omega (arith, one.cost);
      path = one.path;
    }
takes visited reach cells p (v ∷ values) (suc k) within dead is =
    let none = dead 0 (omega arith) in
    let one = first visited reach cells p v values false (ap (λ (o : Outcome). o.found) none) in
    let rest = takes visited reach cells p values k (omega (arith, within)) (λ j low. dead (suc j) (omega (arith, low))) is in
    record {
      found = one.found ∙ rest.found;
      cost = omega (arith, one.cost, ap (λ (o : Outcome). o.cost) none, rest.cost);
      path = one.path ∙ rest.path;
    }

-- the first value of a parameter that doesn't lead to a node that fails
pub comes_by : (t : TreeView) (i k : ℕ) (cells : List (Option ℕ)) → i < length (constrained_params t.model)
    → is_assigned cells (get_or (constrained_params t.model) i 0) ≡ false → is_failing t.model t.values cells ≡ false
    → k < length (get_or t.values (get_or (constrained_params t.model) i 0) [])
    → ((j : ℕ) → j < k → is_failing t.model t.values (with_value cells (get_or (constrained_params t.model) i 0)
    (get_or (get_or t.values (get_or (constrained_params t.model) i 0) []) j 0)) ≡ true)
    → ComesTo t (drop i (constrained_params t.model)) (drop (i + 1) (constrained_params t.model)) cells
    (with_value cells (get_or (constrained_params t.model) i 0) (get_or (get_or t.values (get_or (constrained_params t.model) i 0) []) k 0)) (k + 1)
comes_by t i k cells within free node inside dead =
    let params = constrained_params t.model in
    let p = get_or params i 0 in
    let rest = drop (i + 1) params in
    let values = get_or t.values p [] in
    let visited = visit t.model t.values rest in
    let reach = reached t.model t.values rest in
    let outcome : visit t.model t.values (drop i params) cells ≡ node_outcome visited cells p values =
    ap (λ (list : List ℕ). visit t.model t.values list cells) (drop_more params i 0 within)
    ∙ ap (λ (b : Bool). if b then visited cells
    else if is_failing t.model t.values cells then record { found = false; cost = 1 }
    else node_outcome visited cells p values) free
    ∙ ap (λ (b : Bool). if b then record { found = false; cost = 1 } else node_outcome visited cells p values) node in
    let path : reached t.model t.values (drop i params) cells ≡ reached_by visited reach cells p values =
    ap (λ (list : List ℕ). reached t.model t.values list cells) (drop_more params i 0 within)
    ∙ ap (λ (b : Bool). if b then reach cells else reached_by visited reach cells p values) free in
    let taken = takes visited reach cells p values k inside
    (λ j low. failing_outcome t.model t.values rest (with_value cells p (get_or values j 0)) (dead j low)) in
    record {
      found = λ h. ap (λ (o : Outcome). o.found) outcome ∙ (taken h).found;
      cost = λ h. omega (arith, ap (λ (o : Outcome). o.cost) outcome, (taken h).cost);
      path = λ h. path ∙ (taken h).path;
    }

-- where no parameter is left
leaf : (t : TreeView) (k : ℕ) (cells : List (Option ℕ)) → length (constrained_params t.model) ≤ k → is_failing t.model t.values cells ≡ false
    → visit t.model t.values (drop k (constrained_params t.model)) cells ≡ record { found = true; cost = 1 }
leaf t k cells past node =
    ap (λ (list : List ℕ). visit t.model t.values list cells) (drop_all k (constrained_params t.model) past)
    ∙ ap (λ (b : Bool). record { found = not b; cost = 1 }) node

pub leaf_found : (t : TreeView) (k n : ℕ) (row cells : List (Option ℕ)) → length (constrained_params t.model) ≤ k
    → is_failing t.model t.values cells ≡ false
    → ComesTo t (constrained_params t.model) (drop k (constrained_params t.model)) row cells n
    → visit t.model t.values (constrained_params t.model) row ≡ record { found = true; cost = n + 1 }
leaf_found t k n row cells past node comes =
    let at = leaf t k cells past node in
    let found = ap (λ (o : Outcome). o.found) at in
    let whole = visit t.model t.values (constrained_params t.model) row in
    ap (λ (b : Bool). record { found = b; cost = whole.cost }) (comes.found found)
    ∙ ap (λ (c : ℕ). record { found = true; cost = c }) (comes.cost found ∙ ap (λ (o : Outcome). n + o.cost) at)

pub leaf_path : (t : TreeView) (k n : ℕ) (row cells : List (Option ℕ)) → length (constrained_params t.model) ≤ k
    → is_failing t.model t.values cells ≡ false
    → ComesTo t (constrained_params t.model) (drop k (constrained_params t.model)) row cells n
    → cells ≡ reached t.model t.values (constrained_params t.model) row
leaf_path t k n row cells past node comes =
    let found = ap (λ (o : Outcome). o.found) (leaf t k cells past node) in
    sym (comes.path found ∙ ap (λ (list : List ℕ). reached t.model t.values list cells) (drop_all k (constrained_params t.model) past))
