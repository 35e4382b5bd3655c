-- Column by column: the columns not yet taken keep all their tuples open.
use Rattle.std.proofs.Common.{◌≡◌, ◌≢◌, ℕ, ◌+◌, ◌<◌, ◌≤◌, Bool, true, false, ◌||◌, List, [], ◌∷◌, ◌++◌, map, length, drop, take, get_or, nat_eq}
use Rattle.std.proofs.Common.{Option, Some, None, All, IsPermutation, ◌∙◌, sym, ap, subst, refl, arith, add-one, append_assoc}
use Rattle.std.specs.List.{range_with_len}
use Rattle.std.proofs.lemmas.Bool.{false≢true}
use Rattle.std.proofs.lemmas.List.FromFn.{length-range_with_len, get_or-range_with_len}
use Rattle.std.proofs.lemmas.List.Sorted.{All-permutation}
use Rattle.std.proofs.lemmas.List.Elements.{All-nil, All-cons, All-head, All-tail}
use Rattle.std.proofs.lemmas.List.{drop_more, map-append}
use Rattle.ipog_grow.proofs.Spending.{find-later, find-earlier}
use Rattle.definitions.proofs.PartialRowLemmas.{among_head}
use Rattle.cov_model.specs.believed.Sound.{ModelView}
use Rattle.definitions.specs.believed.Demand.{is_among}
use Rattle.definitions.specs.believed.Growth.{tuples_in_play}
use Rattle.definitions.specs.believed.Pairs.{pairs_of}
use Rattle.uncovered_table.specs.Open.{OpenView, all_open}
use Rattle.uncovered_table.specs.Places.{tuple_at}
use Rattle.ipog_grow.specs.Growing.{Keeps, Rises, open_places, open_tuples}
use Rattle.full_search.specs.Questions.{QuestionsView}
use Rattle.ipog_grow.specs.Asking.{IsSoundContext, IsTableOf, IsReady, Grows, first_spent, column_grown, columns_grown}
use Rattle.ipog_grow.specs.Growing.{up_to}
use Rattle.ipog_grow.proofs.ColumnLemmas.{take-up_to}
use Rattle.ipog_grow.proofs.Falling.{Distinct}
use Rattle.ipog_grow.proofs.Table.{open_tuples-all_open, slice_places-rise}
use Rattle.ipog_grow.proofs.Trying.{distinct-permuted, is_over}

-- all tuples of the columns that are left are open
pub record AreReady (context : QuestionsView) (table : OpenView) (rest : List ℕ) (rows : List (List (Option ℕ))) : Type 0 where
  pub of : IsTableOf context table
  pub rises : Rises table.places
  pub all_open : All (λ p. open_tuples table p ≡ tuples_in_play context.model context.slice p) rest
  pub grows : All (Grows context) rows
  pub distinct : Distinct rest
  pub exist : All (λ p. p < length context.model.params) rest

-- the columns that are left decide
pub record Taking (context : QuestionsView) (order rest : List ℕ) (table : OpenView) (initial rows : List (List (Option ℕ)))
    (before omitted : List (List (ℕ × ℕ))) : Type 0 where
  pub given : (columns_grown context order initial).rows ≡ (columns_grown context rest rows).rows
  pub asked : first_spent context (columns_grown context order initial).asked ≡ first_spent context (columns_grown context rest rows).asked
  pub left_out : before ++ map pairs_of (columns_grown context order initial).omitted ≡ omitted ++ map pairs_of (columns_grown context rest rows).omitted
  pub ready : AreReady context table rest rows

every : (P : ℕ → Type 0) (xs : List ℕ) → ((x : ℕ) → P x) → All P xs
every P xs f = λ i d within. f (get_or xs i d)

exists_range : (a n k : ℕ) → a + n ≤ k → All (λ p. p < k) (range_with_len a n)
exists_range a n k within =
    λ i d inside.
    let place : i < n = omega (arith, length-range_with_len a n) in
    subst (λ q. q < k) (sym (get_or-range_with_len a n i d place)) (omega (arith, place))

-- at first
pub taking-start : (context : QuestionsView) (order : List ℕ) (table : OpenView) (rows : List (List (Option ℕ))) (omitted : List (List (ℕ × ℕ)))
    → IsSoundContext context → table ≡ all_open context.model context.slice
    → IsPermutation (range_with_len 0 (length context.model.params)) order → All (Grows context) rows
    → Taking context order order table rows rows omitted omitted
taking-start context order table rows omitted is fresh moved grows = record {
  given = refl;
  asked = refl;
  left_out = refl;
  ready = record {
    of = (ap (λ (t : OpenView). t.model) fresh, ap (λ (t : OpenView). t.slice) fresh);
    rises = subst (λ (t : OpenView). Rises t.places) (sym fresh) (slice_places-rise context.model context.slice);
    all_open =
        every (λ p. open_tuples table p ≡ tuples_in_play context.model context.slice p) order
        (λ p. ap (λ (t : OpenView). open_tuples t p) fresh ∙ open_tuples-all_open context.model context.slice p is.slice);
    grows = grows;
    distinct = distinct-permuted (length context.model.params) order moved;
    exist = All-permutation (λ p. p < length context.model.params) (range_with_len 0 (length context.model.params)) order moved
        (exists_range 0 (length context.model.params) (length context.model.params) (omega arith));
  };
}

-- the next column
pub taking-next : {context : QuestionsView} {p : ℕ} {rest : List ℕ} {table : OpenView} {rows : List (List (Option ℕ))}
    → AreReady context table (p ∷ rest) rows → IsReady context table p rows
taking-next {context} {p} {rest} {table} {rows} ready = record {
  of = ready.of;
  rises = ready.rises;
  all_open = All-head (λ q. open_tuples table q ≡ tuples_in_play context.model context.slice q) p rest ready.all_open;
  grows = ready.grows;
}

others_open : (context : QuestionsView) (p : ℕ) (rest : List ℕ) (table after : OpenView) → Keeps table after p → is_among rest p ≡ false
    → All (λ q. open_tuples table q ≡ tuples_in_play context.model context.slice q) rest
    → All (λ q. open_tuples after q ≡ tuples_in_play context.model context.slice q) rest
others_open context p [] table after keeps apart all = All-nil (λ q. open_tuples after q ≡ tuples_in_play context.model context.slice q)
others_open context p (q ∷ rest) table after keeps apart all =
    let differs : q ≢ p = λ same. false≢true (sym apart ∙ ap (λ k. is_among (k ∷ rest) p) same ∙ among_head p rest) in
    All-cons (λ r. open_tuples after r ≡ tuples_in_play context.model context.slice r) q rest
    (ap (λ (m : ModelView). map (tuple_at m) (open_places after q)) keeps.model ∙ ap (map (tuple_at table.model)) (keeps.others q differs)
    ∙ All-head (λ r. open_tuples table r ≡ tuples_in_play context.model context.slice r) q rest all)
    (others_open context p rest table after keeps (later (nat_eq q p) apart)
    (All-tail (λ r. open_tuples table r ≡ tuples_in_play context.model context.slice r) q rest all))
  where
    later : (b : Bool) → (b || is_among rest p) ≡ false → is_among rest p ≡ false
    later true h = absurd (false≢true (sym h))
    later false h = h

pub taking-more : {context : QuestionsView} {order : List ℕ} {p : ℕ} {rest : List ℕ} {table after : OpenView}
    {initial rows grown : List (List (Option ℕ))} {before omitted more : List (List (ℕ × ℕ))}
    → Taking context order (p ∷ rest) table initial rows before omitted
    → first_spent context (column_grown context p rows).asked ≡ None → grown ≡ (column_grown context p rows).rows
    → more ≡ omitted ++ map pairs_of (column_grown context p rows).omitted
    → Keeps table after p → All (Grows context) grown → Taking context order rest after initial grown before more
taking-more {context} {order} {p} {rest} {table} {after} {initial} {rows} {grown} {before} {omitted} {more} taking none is left keeps grows = record {
  given = taking.given ∙ ap (λ list. (columns_grown context rest list).rows) (sym is);
  asked =
      taking.asked ∙ find-later (is_over context) (column_grown context p rows).asked (columns_grown context rest (column_grown context p rows).rows).asked none
      ∙ ap (λ list. first_spent context (columns_grown context rest list).asked) (sym is);
  left_out =
      taking.left_out
      ∙ ap (λ list. omitted ++ list)
      (map-append pairs_of (column_grown context p rows).omitted (columns_grown context rest (column_grown context p rows).rows).omitted)
      ∙ sym (append_assoc omitted (map pairs_of (column_grown context p rows).omitted)
      (map pairs_of (columns_grown context rest (column_grown context p rows).rows).omitted))
      ∙ ap (λ list. list ++ map pairs_of (columns_grown context rest (column_grown context p rows).rows).omitted) (sym left)
      ∙ ap (λ list. more ++ map pairs_of (columns_grown context rest list).omitted) (sym is);
  ready = record {
    of = (keeps.model ∙ taking.ready.of.0, keeps.slice ∙ taking.ready.of.1);
    rises = keeps.rises taking.ready.rises;
    all_open =
        others_open context p rest table after keeps taking.ready.distinct.0
        (All-tail (λ q. open_tuples table q ≡ tuples_in_play context.model context.slice q) p rest taking.ready.all_open);
    grows = grows;
    distinct = taking.ready.distinct.1;
    exist = All-tail (λ q. q < length context.model.params) p rest taking.ready.exist;
  };
}

-- a question costs more than it may
pub taking-spent : {context : QuestionsView} {order : List ℕ} {p : ℕ} {rest : List ℕ} {table : OpenView}
    {initial rows : List (List (Option ℕ))} {before omitted : List (List (ℕ × ℕ))} {question : List (Option ℕ)}
    → Taking context order (p ∷ rest) table initial rows before omitted
    → first_spent context (column_grown context p rows).asked ≡ Some question → first_spent context (columns_grown context order initial).asked ≡ Some question
taking-spent {context} {order} {p} {rest} {table} {initial} {rows} {before} {omitted} {question} taking over =
    taking.asked ∙ find-earlier (is_over context) question (column_grown context p rows).asked
    (columns_grown context rest (column_grown context p rows).rows).asked over

-- the next column, by its place
pub taking-at : (context : QuestionsView) (order : List ℕ) (k p : ℕ) (table : OpenView) (initial rows : List (List (Option ℕ)))
    (before omitted : List (List (ℕ × ℕ))) → k < length order → p ≡ get_or order k 0
    → Taking context order (drop k order) table initial rows before omitted → Taking context order (p ∷ drop (k + 1) order) table initial rows before omitted
taking-at context order k p table initial rows before omitted within is taking =
    subst (λ rest. Taking context order rest table initial rows before omitted) (drop_more order k 0 within ∙ ap (λ q. q ∷ drop (k + 1) order) (sym is)) taking

-- the columns up to it exist, and are done by it
pub columns-exist : (n : ℕ) (order : List ℕ) → IsPermutation (range_with_len 0 n) order → All (λ p. p < n) order
columns-exist n order moved = All-permutation (λ p. p < n) (range_with_len 0 n) order moved (exists_range 0 n n (omega arith))

pub take-columns_to : (n : ℕ) (order : List ℕ) (k p : ℕ) → IsPermutation (range_with_len 0 n) order → k < length order → p ≡ get_or order k 0
    → take (k + 1) order ≡ up_to p order
take-columns_to n order k p moved within is =
    ap (λ i. take i order) (add-one k) ∙ take-up_to order k within (distinct-permuted n order moved) ∙ ap (λ q. up_to q order) (sym is)
