-- A column: its horizontal growth, then its vertical growth.
use Rattle.std.proofs.Common.{◌≡◌, ℕ, ◌<◌, true, List, [], length, get_or, filter, Option, Some, None, All, ◌∙◌, sym, ap, subst}
use Rattle.std.proofs.lemmas.List.FromFn.{length-range_with_len}
use Rattle.std.proofs.lemmas.List.Sorted.{length_permutation}
use Rattle.std.proofs.lemmas.List.Elements.{filter_passes}
use Rattle.ipog_grow.proofs.Spending.{find-later, find-earlier}
use Rattle.cov_model.specs.believed.Sound.{param_at}
use Rattle.definitions.specs.believed.Growth.{Grown, down, is_uncovered, tuples_in_play}
use Rattle.uncovered_table.specs.Open.{OpenView}
use Rattle.ipog_grow.specs.Growing.{IsInPlay, Keeps, open_tuples}
use Rattle.full_search.specs.Questions.{QuestionsView}
use Rattle.ipog_grow.specs.Asking.{IsSoundContext, IsOpen, IsReady, Grows, extends, first_spent, crossed, column_grown}
use Rattle.ipog_grow.proofs.HorizontalLemmas.{keeps-both}
use Rattle.ipog_grow.proofs.Settling.{down-uncovered}
use Rattle.ipog_grow.proofs.Trying.{is_over}
use Rattle.ipog_grow.proofs.Tuples.{tuples_in_play-are}

-- a column has as many values as its order
pub order-long : (context : QuestionsView) (p : ℕ) → IsSoundContext context → p < length context.model.params → length (get_or context.prefs p [])
    ≡ length (param_at context.model.params p).values
order-long context p is within =
    length_permutation _ (get_or context.prefs p []) (is.orders.each p within) ∙ length-range_with_len 0 (length (param_at context.model.params p).values)

-- the tuples that are open before it grows are in play there
pub ready-in_play : (context : QuestionsView) (p : ℕ) (table : OpenView) (rows : List (List (Option ℕ))) → IsSoundContext context
    → p < length context.model.params → IsReady context table p rows
    → All (IsInPlay context.model context.slice p) (open_tuples table p)
ready-in_play context p table rows is within ready =
    subst (All (IsInPlay context.model context.slice p)) (sym ready.all_open) (tuples_in_play-are context.model context.slice p is.slice within)

-- the tuples of the column
abbrev in_play : QuestionsView → ℕ → List (List (Option ℕ))
in_play context p = tuples_in_play context.model context.slice p

-- horizontal growth is done
pub record Half (context : QuestionsView) (start after : OpenView) (p : ℕ) (initial rows : List (List (Option ℕ))) : Type 0 where
  pub asked : first_spent context (crossed context p (tuples_in_play context.model context.slice p) [] initial).asked ≡ None
  pub given : rows ≡ (crossed context p (tuples_in_play context.model context.slice p) [] initial).rows
  pub moment : open_tuples after p ≡ filter (is_uncovered rows) (tuples_in_play context.model context.slice p)
  pub keeps : Keeps start after p
  pub in_play : All (IsInPlay context.model context.slice p) (open_tuples after p)
  pub grows : All (Grows context) rows

-- the open tuples are in play and contained in no row
pub half-open : {context : QuestionsView} {start after : OpenView} {p : ℕ} {initial rows : List (List (Option ℕ))} → IsReady context start p initial
    → Half context start after p initial rows → IsOpen context after p rows
half-open {context} {start} {after} {p} {initial} {rows} ready half = record {
  of = (half.keeps.model ∙ ready.of.0, half.keeps.slice ∙ ready.of.1);
  rises = half.keeps.rises ready.rises;
  uncovered = subst (All (λ t. is_uncovered rows t ≡ true)) (sym half.moment) (filter_passes (is_uncovered rows) (in_play context p));
  in_play = half.in_play;
  grows = half.grows;
}

-- vertical growth of the open tuples is that of all
half_down : (context : QuestionsView) (start after : OpenView) (p : ℕ) (initial rows : List (List (Option ℕ))) → Half context start after p initial rows
    → down (extends context) (open_tuples after p) rows ≡ down (extends context) (in_play context p) (crossed context p (in_play context p) [] initial).rows
half_down context start after p initial rows half =
    ap (λ list. down (extends context) list rows) half.moment ∙ down-uncovered (extends context) (in_play context p) rows
    ∙ ap (down (extends context) (in_play context p)) half.given

pub half-rows : {context : QuestionsView} {start after : OpenView} {p : ℕ} {initial rows : List (List (Option ℕ))} → Half context start after p initial rows
    → (down (extends context) (open_tuples after p) rows).rows ≡ (column_grown context p initial).rows
half-rows {context} {start} {after} {p} {initial} {rows} half = ap (λ (g : Grown). g.rows) (half_down context start after p initial rows half)

pub half-omitted : {context : QuestionsView} {start after : OpenView} {p : ℕ} {initial rows : List (List (Option ℕ))} → Half context start after p initial rows
    → (down (extends context) (open_tuples after p) rows).omitted ≡ (column_grown context p initial).omitted
half-omitted {context} {start} {after} {p} {initial} {rows} half = ap (λ (g : Grown). g.omitted) (half_down context start after p initial rows half)

pub half-asked : {context : QuestionsView} {start after : OpenView} {p : ℕ} {initial rows : List (List (Option ℕ))} → Half context start after p initial rows
    → first_spent context (down (extends context) (open_tuples after p) rows).asked ≡ first_spent context (column_grown context p initial).asked
half-asked {context} {start} {after} {p} {initial} {rows} half =
    ap (λ (g : Grown). first_spent context g.asked) (half_down context start after p initial rows half)
    ∙ sym (find-later (is_over context) (crossed context p (in_play context p) [] initial).asked
    (down (extends context) (in_play context p) (crossed context p (in_play context p) [] initial).rows).asked half.asked)

-- a question of horizontal growth that costs more than it may is the column's first
pub half-stops : (context : QuestionsView) (p : ℕ) (initial : List (List (Option ℕ))) (question : List (Option ℕ))
    → first_spent context (crossed context p (tuples_in_play context.model context.slice p) [] initial).asked ≡ Some question
    → first_spent context (column_grown context p initial).asked ≡ Some question
half-stops context p initial question over =
    find-earlier (is_over context) question (crossed context p (in_play context p) [] initial).asked
    (down (extends context) (in_play context p) (crossed context p (in_play context p) [] initial).rows).asked over

-- the tuples that are open once what the rows contain is closed
pub closed-moment : (context : QuestionsView) (p : ℕ) (start table : OpenView) (initial : List (List (Option ℕ))) → IsReady context start p initial
    → open_tuples table p ≡ filter (is_uncovered initial) (open_tuples start p)
    → open_tuples table p ≡ filter (is_uncovered initial) (tuples_in_play context.model context.slice p)
closed-moment context p start table initial ready moment = moment ∙ ap (filter (is_uncovered initial)) ready.all_open

-- what horizontal growth told
pub half : {context : QuestionsView} {p : ℕ} {start table after : OpenView} {initial rows : List (List (Option ℕ))} → IsReady context start p initial
    → open_tuples table p ≡ filter (is_uncovered initial) (open_tuples start p) → Keeps start table p
    → ((tuples : List (List (Option ℕ))) → open_tuples table p ≡ filter (is_uncovered initial) tuples
    → first_spent context (crossed context p tuples [] initial).asked ≡ None)
    → ((tuples : List (List (Option ℕ))) → open_tuples table p ≡ filter (is_uncovered initial) tuples → rows ≡ (crossed context p tuples [] initial).rows)
    → ((tuples : List (List (Option ℕ))) → open_tuples table p ≡ filter (is_uncovered initial) tuples
    → open_tuples after p ≡ filter (is_uncovered rows) tuples)
    → Keeps table after p → All (IsInPlay context.model context.slice p) (open_tuples after p) → All (Grows context) rows
    → Half context start after p initial rows
half {context} {p} {start} {table} {after} {initial} {rows} ready closes kept none given leaves keeps own grows =
    let moment = closed-moment context p start table initial ready closes in
    record {
      asked = none (in_play context p) moment;
      given = given (in_play context p) moment;
      moment = leaves (in_play context p) moment;
      keeps = keeps-both start table after p kept keeps;
      in_play = own;
      grows = grows;
    }
