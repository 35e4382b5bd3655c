-- Horizontal growth, row by row.
use Rattle.std.proofs.Common.{◌≡◌, ℕ, ◌+◌, ◌<◌, ◌≤◌, true, not, List, [], ◌∷◌, ◌++◌, length, take, drop, filter, Option, Some, None, get_or, set, All, ◌∙◌, sym, ap, subst, refl, arith, inl, inr}
use Rattle.std.proofs.lemmas.List.{drop_all, take_all, take-append-drop, take_more_set, drop-set-lt, set-get_or, length-set, drop_more}
use Rattle.std.proofs.lemmas.List.Elements.{All-filter, All-set}
use Rattle.ipog_grow.proofs.Spending.{find-later, find-earlier}
use Rattle.cov_model.specs.believed.Rows.{contains}
use Rattle.definitions.specs.believed.Growth.{Grown, is_uncovered}
use Rattle.uncovered_table.specs.Open.{OpenView, row_closed, is_held}
use Rattle.ipog_grow.specs.Growing.{IsClosedBy, IsInPlay, Keeps, open_tuples}
use Rattle.full_search.specs.Questions.{QuestionsView}
use Rattle.ipog_grow.specs.Asking.{Grows, first_spent, filled, crossed}
use Rattle.ipog_grow.proofs.Holding.{holds-set, open_after}
use Rattle.ipog_grow.proofs.Table.{open_tuples-row_closed, open_places-row_closed_other, Rises-filter}
use Rattle.ipog_grow.proofs.Trying.{is_over}

pub keeps-same : (table : OpenView) (p : ℕ) → Keeps table table p
keeps-same table p = record { model = refl; slice = refl; others = λ q apart. refl; rises = λ rises. rises }

pub keeps-both : (table middle after : OpenView) (p : ℕ) → Keeps table middle p → Keeps middle after p → Keeps table after p
keeps-both table middle after p first second = record {
  model = second.model ∙ first.model;
  slice = second.slice ∙ first.slice;
  others = λ q apart. second.others q apart ∙ first.others q apart;
  rises = λ rises. second.rises (first.rises rises);
}

pub keeps-row : (table after : OpenView) (p : ℕ) (row : List (Option ℕ)) → after ≡ row_closed table p row → Keeps table after p
keeps-row table after p row is =
    subst (λ (next : OpenView). Keeps table next p) (sym is) (record {
      model = refl;
      slice = refl;
      others = λ q apart. open_places-row_closed_other table p q row apart;
      rises = λ rises. Rises-filter (λ place. not (is_held table p row place)) table.places rises;
    })

-- the tuples that stay open are in play
pub in_play-row : (P : List (Option ℕ) → Type 0) (table after : OpenView) (p : ℕ) (row : List (Option ℕ)) → after ≡ row_closed table p row
    → All P (open_tuples table p) → All P (open_tuples after p)
in_play-row P table after p row is all =
    subst (λ (next : OpenView). All P (open_tuples next p)) (sym is)
    (subst (All P) (sym (open_tuples-row_closed table p row)) (All-filter (λ tuple. not (contains row tuple)) P (open_tuples table p) all))

-- the open tuples are those that no row contains, also once a row has become another that contains it
pub moment-set : (table after : OpenView) (p i : ℕ) (row : List (Option ℕ)) (rows tuples : List (List (Option ℕ))) → after ≡ row_closed table p row
    → i < length rows
    → contains row (get_or rows i []) ≡ true → open_tuples table p ≡ filter (is_uncovered rows) tuples
    → open_tuples after p ≡ filter (is_uncovered (set rows i row)) tuples
moment-set table after p i row rows tuples is within more moment =
    ap (λ (next : OpenView). open_tuples next p) is ∙ open_tuples-row_closed table p row ∙ ap (filter (λ tuple. not (contains row tuple))) moment
    ∙ sym (open_after rows (set rows i row) row tuples (λ tuple. holds-set rows i row tuple within more))

-- what a step on a cell told
pub record Step (context : QuestionsView) (p : ℕ) (table after : OpenView) (row grown : List (Option ℕ)) : Type 0 where
  pub asked : (rows tuples : List (List (Option ℕ))) → open_tuples table p ≡ filter (is_uncovered rows) tuples
      → first_spent context (filled context p rows tuples row).asked ≡ None
  pub given : (rows tuples : List (List (Option ℕ))) → open_tuples table p ≡ filter (is_uncovered rows) tuples → grown ≡ (filled context p rows tuples row).row
  pub closes : IsClosedBy table after p row grown
  pub grows : Grows context grown
  pub more : contains grown row ≡ true

-- the rows that are left decide
pub record Crossing (context : QuestionsView) (p : ℕ) (start table : OpenView) (initial rows : List (List (Option ℕ))) (i : ℕ) : Type 0 where
  pub moment : (tuples : List (List (Option ℕ))) → open_tuples start p ≡ filter (is_uncovered initial) tuples
      → open_tuples table p ≡ filter (is_uncovered rows) tuples
  pub given : (tuples : List (List (Option ℕ))) → open_tuples start p ≡ filter (is_uncovered initial) tuples
      → (crossed context p tuples [] initial).rows ≡ (crossed context p tuples (take i rows) (drop i rows)).rows
  pub asked : (tuples : List (List (Option ℕ))) → open_tuples start p ≡ filter (is_uncovered initial) tuples
      → first_spent context (crossed context p tuples [] initial).asked ≡ first_spent context (crossed context p tuples (take i rows) (drop i rows)).asked
  pub keeps : Keeps start table p
  pub in_play : All (IsInPlay context.model context.slice p) (open_tuples table p)
  pub grows : All (Grows context) rows
  pub long : length rows ≡ length initial

pub crossing-start : (context : QuestionsView) (p : ℕ) (table : OpenView) (rows : List (List (Option ℕ)))
    → All (IsInPlay context.model context.slice p) (open_tuples table p) → All (Grows context) rows
    → Crossing context p table table rows rows 0
crossing-start context p table rows in_play grows = record {
  moment = λ tuples moment. moment;
  given = λ tuples moment. refl;
  asked = λ tuples moment. refl;
  keeps = keeps-same table p;
  in_play = in_play;
  grows = grows;
  long = refl;
}

-- what the rows that are left give, by the first of them
abbrev by_row : QuestionsView → ℕ → List (List (Option ℕ)) → List (List (Option ℕ)) → ℕ → Grown
by_row context p tuples rows i =
    let step = filled context p rows tuples (get_or rows i []) in
    let later = crossed context p tuples (take i rows ++ step.row ∷ []) (drop (i + 1) rows) in
    record { rows = later.rows; omitted = later.omitted; asked = step.asked ++ later.asked }

at_row : (context : QuestionsView) (p : ℕ) (tuples rows : List (List (Option ℕ))) (i : ℕ) → i < length rows
    → crossed context p tuples (take i rows) (drop i rows) ≡ by_row context p tuples rows i
at_row context p tuples rows i within =
    ap (crossed context p tuples (take i rows)) (drop_more rows i [] within)
    ∙ ap (λ (all : List (List (Option ℕ))). after all) (ap (λ list. take i rows ++ list) (sym (drop_more rows i [] within)) ∙ take-append-drop i rows)
  where
    after : List (List (Option ℕ)) → Grown
    after all =
        let step = filled context p all tuples (get_or rows i []) in
        let later = crossed context p tuples (take i rows ++ step.row ∷ []) (drop (i + 1) rows) in
        record { rows = later.rows; omitted = later.omitted; asked = step.asked ++ later.asked }

same_rest : (rows : List (List (Option ℕ))) (i : ℕ) (grown : List (Option ℕ)) (context : QuestionsView) (p : ℕ) (tuples : List (List (Option ℕ)))
    (given : List (Option ℕ)) → i < length rows → grown ≡ given
    → crossed context p tuples (take i rows ++ given ∷ []) (drop (i + 1) rows) ≡ crossed context p tuples (take (i + 1) (set rows i grown))
    (drop (i + 1) (set rows i grown))
same_rest rows i grown context p tuples given within same =
    ap (λ row. crossed context p tuples (take i rows ++ row ∷ []) (drop (i + 1) rows)) (sym same)
    ∙ ap (λ list. crossed context p tuples list (drop (i + 1) rows)) (sym (take_more_set rows i grown within))
    ∙ ap (crossed context p tuples (take (i + 1) (set rows i grown))) (sym (drop-set-lt (i + 1) rows i grown (omega arith)))

-- one row more
pub crossing-more : (context : QuestionsView) (p : ℕ) (start table after : OpenView) (initial rows : List (List (Option ℕ))) (i : ℕ)
    (grown : List (Option ℕ)) → i < length rows
    → Crossing context p start table initial rows i → Step context p table after (get_or rows i []) grown
    → Crossing context p start after initial (set rows i grown) (i + 1)
crossing-more context p start table after initial rows i grown within crossing step = record {
  moment = λ tuples moment. moment_of tuples (crossing.moment tuples moment) step.closes;
  given = λ tuples moment.
      crossing.given tuples moment ∙ ap (λ (g : Grown). g.rows) (at_row context p tuples rows i within)
      ∙ ap (λ (g : Grown). g.rows) (same_rest rows i grown context p tuples (filled context p rows tuples (get_or rows i [])).row within
      (step.given rows tuples (crossing.moment tuples moment)));
  asked = λ tuples moment.
      crossing.asked tuples moment ∙ ap (λ (g : Grown). first_spent context g.asked) (at_row context p tuples rows i within)
      ∙ find-later (is_over context) (filled context p rows tuples (get_or rows i [])).asked
      (crossed context p tuples (take i rows ++ (filled context p rows tuples (get_or rows i [])).row ∷ []) (drop (i + 1) rows)).asked
      (step.asked rows tuples (crossing.moment tuples moment))
      ∙ ap (λ (g : Grown). first_spent context g.asked) (same_rest rows i grown context p tuples (filled context p rows tuples (get_or rows i [])).row within
      (step.given rows tuples (crossing.moment tuples moment)));
  keeps = keeps-both start table after p crossing.keeps (keeps_of step.closes);
  in_play = in_play_of step.closes;
  grows = All-set (Grows context) rows i grown step.grows crossing.grows;
  long = length-set rows i grown ∙ crossing.long;
}
  where
    moment_of : (tuples : List (List (Option ℕ))) → open_tuples table p ≡ filter (is_uncovered rows) tuples → IsClosedBy table after p (get_or rows i []) grown
        → open_tuples after p ≡ filter (is_uncovered (set rows i grown)) tuples
    moment_of tuples moment (inl same) =
        ap (λ (next : OpenView). open_tuples next p) same.1 ∙ moment
        ∙ ap (λ list. filter (is_uncovered list) tuples) (sym (ap (set rows i) same.0 ∙ set-get_or rows i []))
    moment_of tuples moment (inr is) = moment-set table after p i grown rows tuples is within step.more moment

    keeps_of : IsClosedBy table after p (get_or rows i []) grown → Keeps table after p
    keeps_of (inl same) = subst (λ (next : OpenView). Keeps table next p) (sym same.1) (keeps-same table p)
    keeps_of (inr is) = keeps-row table after p grown is

    in_play_of : IsClosedBy table after p (get_or rows i []) grown → All (IsInPlay context.model context.slice p) (open_tuples after p)
    in_play_of (inl same) = subst (λ (next : OpenView). All (IsInPlay context.model context.slice p) (open_tuples next p)) (sym same.1) crossing.in_play
    in_play_of (inr is) = in_play-row (IsInPlay context.model context.slice p) table after p grown is crossing.in_play

-- a row whose question costs more than it may
pub crossing-spent : (context : QuestionsView) (p : ℕ) (start table : OpenView) (initial rows : List (List (Option ℕ))) (i : ℕ) (question : List (Option ℕ))
    (tuples : List (List (Option ℕ))) → i < length rows
    → Crossing context p start table initial rows i → open_tuples start p ≡ filter (is_uncovered initial) tuples
    → first_spent context (filled context p rows tuples (get_or rows i [])).asked ≡ Some question
    → first_spent context (crossed context p tuples [] initial).asked ≡ Some question
crossing-spent context p start table initial rows i question tuples within crossing moment over =
    crossing.asked tuples moment ∙ ap (λ (g : Grown). first_spent context g.asked) (at_row context p tuples rows i within)
    ∙ find-earlier (is_over context) question (filled context p rows tuples (get_or rows i [])).asked
    (crossed context p tuples (take i rows ++ (filled context p rows tuples (get_or rows i [])).row ∷ []) (drop (i + 1) rows)).asked over

-- no row is left
pub record Crossed (context : QuestionsView) (p : ℕ) (start : OpenView) (initial rows tuples : List (List (Option ℕ))) : Type 0 where
  pub asked : first_spent context (crossed context p tuples [] initial).asked ≡ None
  pub given : rows ≡ (crossed context p tuples [] initial).rows

pub crossing-end : (context : QuestionsView) (p : ℕ) (start table : OpenView) (initial rows : List (List (Option ℕ))) (i : ℕ)
    (tuples : List (List (Option ℕ))) → length rows ≤ i
    → Crossing context p start table initial rows i → open_tuples start p ≡ filter (is_uncovered initial) tuples → Crossed context p start initial rows tuples
crossing-end context p start table initial rows i tuples past crossing moment =
    let none : drop i rows ≡ [] = drop_all i rows past in
    record {
      asked = crossing.asked tuples moment ∙ ap (λ list. first_spent context (crossed context p tuples (take i rows) list).asked) none;
      given = sym (crossing.given tuples moment ∙ ap (λ list. (crossed context p tuples (take i rows) list).rows) none ∙ take_all i rows past);
    }
