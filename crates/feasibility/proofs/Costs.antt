-- How many nodes a search visits that finds nothing.
use Rattle.std.proofs.Common.{◌≡◌, ℕ, zero, suc, ◌+◌, ◌<◌, ◌≤◌, Bool, true, false, not, ◌||◌, ◌==◌, if◌then◌else◌, List, [], ◌∷◌, length, drop, get_or, Option, inl, inr, ◌∙◌, sym, ap, refl, arith}
use Rattle.std.specs.List.{range_with_len, sum_by}
use Rattle.std.proofs.lemmas.Bool.{false≢true, cases_eq, cases_lt, eq-eqb, ne_eqb}
use Rattle.std.proofs.lemmas.List.{drop_all, drop_more}
use Rattle.std.proofs.lemmas.List.Sums.{sum_by-cons}
use Rattle.cov_model.specs.believed.Sound.{ModelView}
use Rattle.cov_model.specs.believed.Rows.{is_assigned, with_value}
use Rattle.definitions.specs.believed.Demand.{is_among}
use Rattle.definitions.specs.believed.Search.{Outcome, is_failing, try_values, visit}
use Rattle.definitions.proofs.Members.{Has}
use Rattle.feasibility.proofs.Visits.{node_outcome}

-- a parameter that has a value is skipped
pub visit_skip : (m : ModelView) (lists : List (List ℕ)) (params : List ℕ) (i : ℕ) (cells : List (Option ℕ)) → i < length params
    → is_assigned cells (get_or params i 0) ≡ true → visit m lists (drop i params) cells ≡ visit m lists (drop (i + 1) params) cells
visit_skip m lists params i cells within given =
    ap (λ (list : List ℕ). visit m lists list cells) (drop_more params i 0 within)
    ∙ ap (λ (b : Bool). if b then visit m lists (drop (i + 1) params) cells
    else if is_failing m lists cells then record { found = false; cost = 1 }
    else node_outcome (visit m lists (drop (i + 1) params)) cells (get_or params i 0) (get_or lists (get_or params i 0) [])) given

-- the values of one that hasn't are tried, on a node that doesn't fail
pub visit_node : (m : ModelView) (lists : List (List ℕ)) (params : List ℕ) (i : ℕ) (cells : List (Option ℕ)) → i < length params
    → is_assigned cells (get_or params i 0) ≡ false → is_failing m lists cells ≡ false
    → visit m lists (drop i params) cells
    ≡ node_outcome (visit m lists (drop (i + 1) params)) cells (get_or params i 0) (get_or lists (get_or params i 0) [])
visit_node m lists params i cells within free node =
    ap (λ (list : List ℕ). visit m lists list cells) (drop_more params i 0 within)
    ∙ ap (λ (b : Bool). if b then visit m lists (drop (i + 1) params) cells
    else if is_failing m lists cells then record { found = false; cost = 1 }
    else node_outcome (visit m lists (drop (i + 1) params)) cells (get_or params i 0) (get_or lists (get_or params i 0) [])) free
    ∙ ap (λ (b : Bool). if b then record { found = false; cost = 1 }
    else node_outcome (visit m lists (drop (i + 1) params)) cells (get_or params i 0) (get_or lists (get_or params i 0) [])) node

-- where nothing is found on a node that doesn't fail, a constrained parameter is left
pub place_left : (m : ModelView) (lists : List (List ℕ)) (params : List ℕ) (i : ℕ) (cells : List (Option ℕ)) → is_failing m lists cells ≡ false
    → (visit m lists (drop i params) cells).found ≡ false → i < length params
place_left m lists params i cells node unfound =
    elim (cases_lt i (length params)) [
      | inl within ↦ within
      | inr past ↦
          absurd (false≢true (sym unfound ∙ ap (λ (list : List ℕ). (visit m lists list cells).found) (drop_all i params past) ∙ ap not node))
    ]

-- where no value succeeds, each is visited
pub record AllTried (visited : List (Option ℕ) → Outcome) (cells : List (Option ℕ)) (p : ℕ) (values : List ℕ) : Type 0 where
  pub each : (v : ℕ) → Has values v → (visited (with_value cells p v)).found ≡ false
  pub cost : (try_values visited cells p values).cost ≡ sum_by (λ v. (visited (with_value cells p v)).cost) values

-- the outcome of trying a value before others, given whether it succeeds
abbrev tried_first : (List (Option ℕ) → Outcome) → List (Option ℕ) → ℕ → ℕ → List ℕ → Bool → Outcome
tried_first visited cells p w values found =
    if found then visited (with_value cells p w)
    else record { found = (try_values visited cells p values).found; cost = (visited (with_value cells p w)).cost + (try_values visited cells p values).cost }

pub all_tried : (visited : List (Option ℕ) → Outcome) (cells : List (Option ℕ)) (p : ℕ) (values : List ℕ)
    → (try_values visited cells p values).found ≡ false → AllTried visited cells p values
all_tried visited cells p [] unfound = record { each = λ v has. absurd has; cost = refl }
all_tried visited cells p (w ∷ values) unfound = by_case (visited (with_value cells p w)).found refl (all_tried visited cells p values)
  where
    by_case : (b : Bool) → (visited (with_value cells p w)).found ≡ b → ((try_values visited cells p values).found ≡ false → AllTried visited cells p values)
        → AllTried visited cells p (w ∷ values)
    by_case true is later = absurd (false≢true (sym unfound ∙ ap (λ (b : Bool). (tried_first visited cells p w values b).found) is ∙ is))
    by_case false is later =
        let rest = later (sym (ap (λ (b : Bool). (tried_first visited cells p w values b).found) is) ∙ unfound) in
        record {
          each = λ v has. elim has [
            | inl same ↦ ap (λ (u : ℕ). (visited (with_value cells p u)).found) (sym same) ∙ is
            | inr has ↦ rest.each v has
          ];
          cost = ap (λ (b : Bool). (tried_first visited cells p w values b).cost) is
              ∙ ap (λ (n : ℕ). (visited (with_value cells p w)).cost + n) rest.cost
              ∙ sym (sum_by-cons (λ (v : ℕ). (visited (with_value cells p v)).cost) w values);
        }

-- the cost of a number that is listed
abbrev pub cost_in : (ℕ → ℕ) → List ℕ → ℕ → ℕ
cost_in cost list v = if is_among list v then cost v else 0

-- that of one number
abbrev cost_at : (ℕ → ℕ) → ℕ → ℕ → ℕ
cost_at cost w v = if w == v then cost v else 0

past_cost : (cost : ℕ → ℕ) (w a n : ℕ) → w < a → sum_by (cost_at cost w) (range_with_len a n) ≡ 0
past_cost cost w a zero less = refl
past_cost cost w a (suc n) less =
    let here : cost_at cost w a ≡ 0 = ap (λ (b : Bool). if b then cost a else 0) (ne_eqb w a (λ same. omega (arith, same))) in
    omega (arith, sum_by-cons (cost_at cost w) a (range_with_len (a + 1) n), here, past_cost cost w (a + 1) n (omega arith))

-- it stands in a range once at most
once_cost : (cost : ℕ → ℕ) (w a n : ℕ) → sum_by (cost_at cost w) (range_with_len a n) ≤ cost w
once_cost cost w a zero = omega arith
once_cost cost w a (suc n) = elim (cases_eq w a) [
  | inl same ↦
      let here : cost_at cost w a ≡ cost w = ap (λ (b : Bool). if b then cost a else 0) (eq-eqb w a same) ∙ ap cost (sym same) in
      omega (arith, sum_by-cons (cost_at cost w) a (range_with_len (a + 1) n), past_cost cost w (a + 1) n (omega (arith, same)), here)
  | inr differs ↦
      let here : cost_at cost w a ≡ 0 = ap (λ (b : Bool). if b then cost a else 0) (ne_eqb w a differs) in
      omega (arith, sum_by-cons (cost_at cost w) a (range_with_len (a + 1) n), here, once_cost cost w (a + 1) n)
]

no_cost : (a n : ℕ) → sum_by (λ (v : ℕ). 0) (range_with_len a n) ≡ 0
no_cost a zero = refl
no_cost a (suc n) = omega (arith, sum_by-cons (λ (v : ℕ). 0) a (range_with_len (a + 1) n), no_cost (a + 1) n)

split_cost : (cost : ℕ → ℕ) (w : ℕ) (list : List ℕ) (a n : ℕ)
    → sum_by (cost_in cost (w ∷ list)) (range_with_len a n) ≤ sum_by (cost_at cost w) (range_with_len a n) + sum_by (cost_in cost list) (range_with_len a n)
split_cost cost w list a zero = omega arith
split_cost cost w list a (suc n) =
    omega (
      arith,
      sum_by-cons (cost_in cost (w ∷ list)) a (range_with_len (a + 1) n),
      sum_by-cons (cost_at cost w) a (range_with_len (a + 1) n),
      sum_by-cons (cost_in cost list) a (range_with_len (a + 1) n),
      at_most (w == a) (is_among list a) (cost a),
      split_cost cost w list (a + 1) n,
    )
  where
    at_most : (b c : Bool) (k : ℕ) → (if b || c then k else 0) ≤ (if b then k else 0) + (if c then k else 0)
    at_most true c k = omega arith
    at_most false true k = omega arith
    at_most false false k = omega arith

-- the numbers of a range that are listed cost no more than the list
pub listed_cost : (cost : ℕ → ℕ) (list : List ℕ) (a n : ℕ) → sum_by (cost_in cost list) (range_with_len a n) ≤ sum_by cost list
listed_cost cost [] a n = omega (arith, no_cost a n)
listed_cost cost (w ∷ list) a n =
    omega (arith, split_cost cost w list a n, once_cost cost w a n, listed_cost cost list a n, sum_by-cons cost w list)
