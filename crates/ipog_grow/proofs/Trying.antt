-- Values tried in a column, the best one first.
use Rattle.std.proofs.Common.{◌≡◌, ℕ, suc, ◌<◌, ◌≤◌, Bool, true, false, cond, List, [], ◌∷◌, map, length, Option, Some, None, get_or, set}
use Rattle.std.proofs.Common.{nat_eq, All, IsPermutation, sum, ◌∙◌, sym, ap, subst, refl, arith, inl, inr}
use Rattle.std.specs.List.{range_with_len, IsDistinct}
use Rattle.std.proofs.lemmas.Bool.{cases_eq}
use Rattle.std.proofs.lemmas.Bool.Decides.{nat_tests}
use Rattle.std.proofs.lemmas.List.{length-set, get_or-set_same, get_or-set_other}
use Rattle.std.proofs.lemmas.List.Folds.{list_any_none}
use Rattle.std.proofs.lemmas.List.FromFn.{length-range_with_len, get_or-range_with_len}
use Rattle.std.proofs.lemmas.List.Sums.{sum_by-set}
use Rattle.std.proofs.lemmas.Map.Keys.{IsDistinct-IsPermutation, IsDistinct-tail, IsDistinct-from_apart, apart_from_distinct}
use Rattle.ipog_grow.proofs.Spending.{find-later, find-earlier}
use Rattle.definitions.proofs.PartialRowLemmas.{with_value-contains}
use Rattle.cov_model.specs.believed.Sound.{param_at}
use Rattle.cov_model.specs.believed.Rows.{contains, is_assigned, with_value}
use Rattle.cov_model.specs.believed.Slices.{slice_values}
use Rattle.definitions.specs.believed.Demand.{is_among}
use Rattle.definitions.specs.believed.Search.{exceeds, question_cost}
use Rattle.definitions.specs.believed.Growth.{Filled, first_extendable}
use Rattle.ipog_grow.specs.Growing.{best}
use Rattle.full_search.specs.Questions.{QuestionsView}
use Rattle.ipog_grow.specs.Asking.{IsSoundContext, Grows, extends, first_spent, tried}
use Rattle.ipog_grow.proofs.Tuples.{grows-with_value}
use Rattle.ipog_grow.proofs.Falling.{Distinct, IsBest, without, best_is, best_none, falling-best, falling-none, falling-same}
use Rattle.refutation.proofs.TreeLemmas.{set_clear}

-- a list with the numbers of another order lists none twice, so the preference order of a column does so
distinct-from : (values : List ℕ) → IsDistinct nat_eq values → Distinct values
distinct-from [] is = tt
distinct-from (v ∷ values) is = (
  list_any_none (λ k. nat_eq k v) values (λ i d within. let apart : nat_eq v (get_or values i d) ≡ false = apart_from_distinct nat_eq (v ∷ values) 0
      (suc i) d is (omega arith) (omega arith) in grind (arith, nat_tests)),
  distinct-from values (IsDistinct-tail nat_eq v values is),
)

pub distinct-permuted : (n : ℕ) (values : List ℕ) → IsPermutation (range_with_len 0 n) values → Distinct values
distinct-permuted n values moved =
    distinct-from values (IsDistinct-IsPermutation nat_eq flips (range_with_len 0 n) values moved (IsDistinct-from_apart nat_eq (range_with_len 0 n) apart))
  where
    flips : (x y : ℕ) → nat_eq x y ≡ nat_eq y x
    flips x y = grind (arith, nat_tests)

    apart : (i j d : ℕ) → i < j → j < length (range_with_len 0 n) → nat_eq (get_or (range_with_len 0 n) i d) (get_or (range_with_len 0 n) j d) ≡ false
    apart i j d before below =
        let inside : j < n = omega (arith, length-range_with_len 0 n) in
        let first = get_or-range_with_len 0 n i d (omega arith) in
        let second = get_or-range_with_len 0 n j d inside in
        grind (arith, nat_tests)

pub distinct-order : (context : QuestionsView) (p : ℕ) → IsSoundContext context → p < length context.model.params → Distinct (get_or context.prefs p [])
distinct-order context p is within = distinct-permuted (length (param_at context.model.params p).values) (get_or context.prefs p []) (is.orders.each p within)

-- the plain cost of a question costs more than it may
abbrev pub is_over : QuestionsView → List (Option ℕ) → Bool
is_over context cells = exceeds context.effort (question_cost context.model context.prefs cells)

-- what trying gives by its first candidate
abbrev pub by_first : Bool → List (Option ℕ) → Filled → Filled
by_first able candidate later = cond able (record { row = candidate; asked = candidate ∷ [] }) (record { row = later.row; asked = candidate ∷ later.asked })

score_set : (scores : List ℕ) (v w : ℕ) → v < length scores → without (λ u. get_or scores u 0) v w ≡ get_or (set scores v 0) w 0
score_set scores v w within =
    elim (cases_eq w v) [
      | inl same ↦
          let test : nat_eq w v ≡ true = grind (arith, nat_tests) in
          ap (λ (b : Bool). cond b 0 (get_or scores w 0)) test ∙ sym (ap (λ (u : ℕ). get_or (set scores v 0) u 0) same ∙ get_or-set_same scores v 0 0 within)
      | inr differs ↦
          let test : nat_eq w v ≡ false = grind (arith, nat_tests) in
          ap (λ (b : Bool). cond b 0 (get_or scores w 0)) test ∙ sym (get_or-set_other scores v w 0 0 differs)
    ]

-- the best value is tried first, then the others as if it had no score
tried-next : (context : QuestionsView) (n : ℕ) (scores order : List ℕ) (p v : ℕ) (row : List (Option ℕ)) → IsBest (λ u. get_or scores u 0) order v
    → get_or scores v 0 ≤ n → v < length scores
    → tried context n scores order p row ≡ by_first (extends context (with_value row p v)) (with_value row p v) (tried context n (set scores v 0) order p row)
tried-next context n scores order p v row is most within =
    ap (λ (values : List ℕ). first_extendable (extends context) row (map (with_value row p) values))
    (falling-best n (λ u. get_or scores u 0) v order is most
    ∙ ap (λ (rest : List ℕ). v ∷ rest) (falling-same n (without (λ u. get_or scores u 0) v) (λ u. get_or (set scores v 0) u 0) order
    (λ w among. score_set scores v w within)))

-- the scores that are left decide what trying the values gives
pub record Trying (context : QuestionsView) (order : List ℕ) (p : ℕ) (row : List (Option ℕ)) (start scores : List ℕ) : Type 0 where
  pub long : length scores ≡ length start
  pub fewer : (v : ℕ) → 0 < get_or scores v 0 → 0 < get_or start v 0
  pub bounded : (n : ℕ) → All (λ score. score ≤ n) start → All (λ score. score ≤ n) scores
  pub given : (n : ℕ) → All (λ score. score ≤ n) start → (tried context n start order p row).row ≡ (tried context n scores order p row).row
  pub asked : (n : ℕ) → All (λ score. score ≤ n) start → first_spent context (tried context n start order p row).asked
      ≡ first_spent context (tried context n scores order p row).asked

pub trying-start : (context : QuestionsView) (order : List ℕ) (p : ℕ) (row : List (Option ℕ)) (start : List ℕ) → Trying context order p row start start
trying-start context order p row start = record { long = refl; fewer = λ v some. some; bounded = λ n all. all; given = λ n all. refl; asked = λ n all. refl }

-- an end of the trying
pub record Tried (context : QuestionsView) (order : List ℕ) (p : ℕ) (row after : List (Option ℕ)) (start : List ℕ) : Type 0 where
  pub given : (n : ℕ) → All (λ score. score ≤ n) start → after ≡ (tried context n start order p row).row
  pub asked : (n : ℕ) → All (λ score. score ≤ n) start → first_spent context (tried context n start order p row).asked ≡ None

-- no value is left
pub trying-end : {context : QuestionsView} {order : List ℕ} {p : ℕ} {row : List (Option ℕ)} {start scores : List ℕ} → Trying context order p row start scores
    → best (λ v. get_or scores v 0) order ≡ None → Tried context order p row row start
trying-end {context} {order} {p} {row} {start} {scores} trying none = record {
  given = λ n all. sym (trying.given n all ∙ ap (λ (filled : Filled). filled.row) (nothing n));
  asked = λ n all. trying.asked n all ∙ ap (λ (filled : Filled). first_spent context filled.asked) (nothing n);
}
  where
    nothing : (n : ℕ) → tried context n scores order p row ≡ record { row = row; asked = [] }
    nothing n =
        ap (λ (values : List ℕ). first_extendable (extends context) row (map (with_value row p) values))
        (falling-none n (λ v. get_or scores v 0) order (λ w among. best_none (λ v. get_or scores v 0) order none w among))

-- the best value, given that it is the next to be tried
pub record Next (context : QuestionsView) (order : List ℕ) (p v : ℕ) (row : List (Option ℕ)) (start scores : List ℕ) : Type 0 where
  pub given : (n : ℕ) → All (λ score. score ≤ n) start
      → (tried context n start order p row).row ≡ (by_first (extends context (with_value row p v)) (with_value row p v)
      (tried context n (set scores v 0) order p row)).row
  pub asked : (n : ℕ) → All (λ score. score ≤ n) start
      → first_spent context (tried context n start order p row).asked
      ≡ first_spent context (by_first (extends context (with_value row p v)) (with_value row p v) (tried context n (set scores v 0) order p row)).asked
  pub some : 0 < get_or scores v 0

pub trying-next : (context : QuestionsView) (order : List ℕ) (p v : ℕ) (row : List (Option ℕ)) (start scores : List ℕ) → Distinct order
    → Trying context order p row start scores
    → best (λ u. get_or scores u 0) order ≡ Some v → v < length scores → Next context order p v row start scores
trying-next context order p v row start scores distinct trying found within =
    let is = best_is (λ u. get_or scores u 0) order v distinct found in
    record {
      given = λ n all. trying.given n all ∙ ap (λ (filled : Filled). filled.row)
          (tried-next context n scores order p v row is (trying.bounded n all v 0 within) within);
      asked = λ n all. trying.asked n all ∙ ap (λ (filled : Filled). first_spent context filled.asked)
          (tried-next context n scores order p v row is (trying.bounded n all v 0 within) within);
      some = is.some;
    }

-- it leaves the row extendable
pub trying-yes : {context : QuestionsView} {order : List ℕ} {p v : ℕ} {row : List (Option ℕ)} {start scores : List ℕ} → Next context order p v row start scores
    → extends context (with_value row p v) ≡ true → first_spent context (with_value row p v ∷ []) ≡ None → Tried context order p row (with_value row p v) start
trying-yes {context} {order} {p} {v} {row} {start} {scores} next able within = record {
  given = λ n all. sym (next.given n all ∙ ap (λ (b : Bool). (by_first b (with_value row p v) (tried context n (set scores v 0) order p row)).row) able);
  asked = λ n all. next.asked n all ∙ ap (λ (b : Bool). first_spent context
      (by_first b (with_value row p v) (tried context n (set scores v 0) order p row)).asked) able ∙ within;
}

-- its question costs more than it may
pub trying-spent : {context : QuestionsView} {order : List ℕ} {p v : ℕ} {row question : List (Option ℕ)} {start scores : List ℕ}
    → Next context order p v row start scores
    → first_spent context (with_value row p v ∷ []) ≡ Some question
    → (n : ℕ) → All (λ score. score ≤ n) start → first_spent context (tried context n start order p row).asked ≡ Some question
trying-spent {context} {order} {p} {v} {row} {question} {start} {scores} next over n all = next.asked n all ∙ at (extends context (with_value row p v))
  where
    at : (b : Bool) → first_spent context (by_first b (with_value row p v) (tried context n (set scores v 0) order p row)).asked ≡ Some question
    at true = over
    at false = find-earlier (is_over context) question ((with_value row p v) ∷ []) (tried context n (set scores v 0) order p row).asked over

-- it doesn't leave the row extendable, so the others are tried
pub trying-more : {context : QuestionsView} {order : List ℕ} {p v : ℕ} {row : List (Option ℕ)} {start scores : List ℕ}
    → Trying context order p row start scores → Next context order p v row start scores
    → v < length scores → extends context (with_value row p v) ≡ false → first_spent context (with_value row p v ∷ []) ≡ None
    → Trying context order p row start (set scores v 0)
trying-more {context} {order} {p} {v} {row} {start} {scores} trying next within unable spent = record {
  long = length-set scores v 0 ∙ trying.long;
  fewer = λ w some. trying.fewer w (less w some);
  bounded = λ n all i d below. bound n (trying.bounded n all) i d (omega (arith, below, length-set scores v 0));
  given = λ n all. next.given n all ∙ ap (λ (b : Bool). (by_first b (with_value row p v) (tried context n (set scores v 0) order p row)).row) unable;
  asked = λ n all.
      next.asked n all ∙ ap (λ (b : Bool). first_spent context (by_first b (with_value row p v) (tried context n (set scores v 0) order p row)).asked) unable
      ∙ find-later (is_over context) ((with_value row p v) ∷ []) (tried context n (set scores v 0) order p row).asked spent;
}
  where
    less : (w : ℕ) → 0 < get_or (set scores v 0) w 0 → 0 < get_or scores w 0
    less w some =
        elim (cases_eq w v) [
          | inl same ↦ absurd (omega (arith, some, ap (λ (u : ℕ). get_or (set scores v 0) u 0) same ∙ get_or-set_same scores v 0 0 within))
          | inr differs ↦ omega (arith, some, get_or-set_other scores v w 0 0 differs)
        ]

    bound : (n : ℕ) → All (λ score. score ≤ n) scores → (i d : ℕ) → i < length scores → get_or (set scores v 0) i d ≤ n
    bound n all i d below =
        elim (cases_eq i v) [
          | inl same ↦ omega (arith, ap (λ (u : ℕ). get_or (set scores v 0) u d) same ∙ get_or-set_same scores v 0 d within)
          | inr differs ↦ omega (arith, get_or-set_other scores v i 0 d differs, all i d below)
        ]

-- with each value that is tried the sum of the scores falls
pub trying-falls : (scores : List ℕ) (v : ℕ) → v < length scores → 0 < get_or scores v 0 → sum (set scores v 0) < sum scores
trying-falls scores v within some = omega (arith, sum_by-set (λ x. x) scores v 0 0 within)

-- a value that is tried
pub record Put (context : QuestionsView) (order : List ℕ) (p v : ℕ) (row held put : List (Option ℕ)) (start scores : List ℕ) : Type 0 where
  pub is : put ≡ with_value row p v
  pub grows : Grows context put
  pub more : contains put row ≡ true
  pub cleared : set put p None ≡ row
  pub next : Next context order p v row start scores

pub trying-put : {context : QuestionsView} {order : List ℕ} {p v : ℕ} {row held put : List (Option ℕ)} {start scores : List ℕ}
    → IsSoundContext context → p < length context.model.params
    → order ≡ get_or context.prefs p [] → ((w : ℕ) → 0 < get_or start w 0 → is_among (get_or (slice_values context.model context.slice) p []) w ≡ true)
    → Grows context row → is_assigned row p ≡ false → Trying context order p row start scores → best (λ u. get_or scores u 0) order ≡ Some v → v < length scores
    → held ≡ row → put ≡ set held p (Some v) → Put context order p v row held put start scores
trying-put {context} {order} {p} {v} {row} {held} {put} {start} {scores} is inside own listed grows free trying found within same done =
    let next = trying-next context order p v row start scores (subst Distinct (sym own) (distinct-order context p is inside)) trying found within in
    let whole : put ≡ with_value row p v = done ∙ ap (λ (cells : List (Option ℕ)). set cells p (Some v)) same in
    record {
      is = whole;
      grows = subst (Grows context) (sym whole) (grows-with_value context.model context.slice row p v is.slice grows free
          (listed v (trying.fewer v next.some)));
      more = ap (λ (cells : List (Option ℕ)). contains cells row) whole ∙ with_value-contains row p v free;
      cleared = ap (λ (cells : List (Option ℕ)). set cells p None) whole ∙ set_clear row p v free;
      next = next;
    }
