-- The first open tuple of a column is closed.
use Rattle.std.proofs.Common.{◌≡◌, ℕ, ◌<◌, Bool, true, false, cond, ◌||◌, not, List, [], ◌∷◌, ◌++◌, map, length, drop, filter, Option, Some, None, get_or, All, ◌∙◌, sym, ap, subst, refl, arith}
use Rattle.std.specs.Prelude.{slice_get, IfSome, is_some}
use Rattle.std.proofs.lemmas.List.Elements.{All-head, All-tail, All-push, All-filter}
use Rattle.cov_model.specs.believed.Rows.{contains}
use Rattle.std.proofs.lemmas.List.{length-set}
use Rattle.std.proofs.lemmas.Bool.{false≢true}
use Rattle.std.proofs.lemmas.Option.{none-some, same_Some}
use Rattle.ipog_grow.proofs.Spending.{find-later, find-earlier}
use Rattle.definitions.proofs.PartialRowLemmas.{union-contains_row, union-contains_tuple}
use Rattle.cov_model.proofs.CellLemmas.{contains-refl}
use Rattle.value_text.proofs.ListLemmas.{filter_all}
use Rattle.definitions.specs.believed.Growth.{Grown, agrees, join, settle, is_uncovered, union}
use Rattle.uncovered_table.specs.Open.{OpenView, closed, row_closed}
use Rattle.uncovered_table.specs.Places.{is_behind, is_in_play, is_place, tuple_at}
use Rattle.ipog_grow.specs.Growing.{columns_to, IsInPlay, Keeps, Rises, open_places, open_tuples}
use Rattle.full_search.specs.Questions.{QuestionsView}
use Rattle.ipog_grow.specs.Asking.{Grows, IsNext, IsPassed, IsUnionAt, extends, first_spent}
use Rattle.definitions.specs.believed.Demand.{is_among}
use Rattle.cov_model.specs.believed.Sound.{param_at}
use Rattle.tuple_index.specs.Places.{RisesFrom}
use Rattle.ipog_grow.specs.UnfilledRows.{HasUnfilled, UnfilledLists, candidates}
use Rattle.ipog_grow.proofs.UnfilledLemmas.{candidates-rise, other-differs, value-within}
use Rattle.ipog_grow.proofs.HorizontalLemmas.{keeps-row}
use Rattle.ipog_grow.proofs.Settling.{settle-taken, settle-alone_asked}
use Rattle.ipog_grow.proofs.Trying.{is_over}
use Rattle.ipog_grow.proofs.Holding.{holds, holds-push, holds-set, open_after}
use Rattle.ipog_grow.proofs.Table.{open_tuples-row_closed, open_places-row_closed, open_places-closed_first, open_places-closed_other, Rises-filter}

-- the places that are open, by the first
record Split (table : OpenView) (p : ℕ) (place : ℕ × ℕ) : Type 0 where
  rest : List (ℕ × ℕ)
  is : open_places table p ≡ place ∷ rest

split : (table : OpenView) (p : ℕ) (place : ℕ × ℕ) → slice_get (open_places table p) 0 ≡ Some place → Split table p place
split table p place first = by_places (open_places table p) refl first
  where
    by_places : (places : List (ℕ × ℕ)) → open_places table p ≡ places → slice_get places 0 ≡ Some place → Split table p place
    by_places [] is e = absurd (none-some place e)
    by_places (a ∷ rest) is e = record { rest = rest; is = is ∙ ap (λ (b : ℕ × ℕ). b ∷ rest) (same_Some a place e) }

-- the other open tuples
others : (context : QuestionsView) (table : OpenView) (p : ℕ) (place : ℕ × ℕ) (tuple : List (Option ℕ)) (rows : List (List (Option ℕ)))
    (next : IsNext context table p place tuple rows) (parts : Split table p place)
    → open_tuples table p ≡ tuple ∷ map (tuple_at table.model) parts.rest
others context table p place tuple rows next parts =
    ap (map (tuple_at table.model)) parts.is ∙ ap (λ (t : List (Option ℕ)). t ∷ map (tuple_at table.model) parts.rest) (sym next.tuple_is)

-- none of them is contained in a row
others-open : (context : QuestionsView) (table : OpenView) (p : ℕ) (place : ℕ × ℕ) (tuple : List (Option ℕ)) (rows : List (List (Option ℕ)))
    (next : IsNext context table p place tuple rows) (parts : Split table p place)
    → filter (is_uncovered rows) (map (tuple_at table.model) parts.rest) ≡ map (tuple_at table.model) parts.rest
others-open context table p place tuple rows next parts =
    filter_all (is_uncovered rows) (map (tuple_at table.model) parts.rest)
    (All-tail (λ t. is_uncovered rows t ≡ true) tuple (map (tuple_at table.model) parts.rest)
    (subst (All (λ t. is_uncovered rows t ≡ true)) (others context table p place tuple rows next parts) next.uncovered))

behind_rest : (table : OpenView) (p : ℕ) (place : ℕ × ℕ) (parts : Split table p place) → Rises table.places
    → All (λ other. is_behind place other ≡ true) parts.rest
behind_rest table p place parts rises = (subst Rises parts.is (Rises-filter (is_in_play table.model table.slice p) table.places rises)).0

-- by a row that contains it
pub passed-row : (context : QuestionsView) (table after : OpenView) (p : ℕ) (place : ℕ × ℕ) (tuple row : List (Option ℕ)) (rows grown : List (List (Option ℕ)))
    → IsNext context table p place tuple rows → after ≡ row_closed table p row → contains row tuple ≡ true
    → ((t : List (Option ℕ)) → holds grown t ≡ (holds rows t || contains row t)) → All (Grows context) grown → IsPassed context table after p place grown
passed-row context table after p place tuple row rows grown next is held more grows =
    let parts = split table p place next.first in
    let rest : List (List (Option ℕ)) = map (tuple_at table.model) parts.rest in
    let all = others context table p place tuple rows next parts in
    record {
      moment =
          ap (λ (t : OpenView). open_tuples t p) is ∙ open_tuples-row_closed table p row ∙ ap (filter (λ t. not (contains row t))) all
          ∙ ap (λ (b : Bool). cond (not b) (tuple ∷ filter (λ t. not (contains row t)) rest) (filter (λ t. not (contains row t)) rest)) held
          ∙ ap (filter (λ t. not (contains row t))) (sym (others-open context table p place tuple rows next parts))
          ∙ sym (open_after rows grown row rest more)
          ∙ ap (λ list. filter (is_uncovered grown) (drop 1 list)) (sym all);
      behind =
          subst (All (λ other. is_behind place other ≡ true))
          (sym (ap (λ (t : OpenView). open_places t p) is ∙ open_places-row_closed table p row
          ∙ ap (filter (λ a. not (contains row (tuple_at table.model a)))) parts.is
          ∙ ap (λ (b : Bool). cond (not b) (place ∷ filter (λ a. not (contains row (tuple_at table.model a))) parts.rest)
          (filter (λ a. not (contains row (tuple_at table.model a))) parts.rest)) (ap (contains row) (sym next.tuple_is) ∙ held)))
          (All-filter (λ a. not (contains row (tuple_at table.model a))) (λ other. is_behind place other ≡ true) parts.rest
          (behind_rest table p place parts next.rises));
      keeps = keeps-row table after p row is;
      grows = grows;
    }

-- as a new row
pub passed-new : {context : QuestionsView} {table after : OpenView} {p : ℕ} {place : ℕ × ℕ} {tuple : List (Option ℕ)} {rows : List (List (Option ℕ))}
    → IsNext context table p place tuple rows → after ≡ row_closed table p tuple → Grows context tuple
    → IsPassed context table after p place (rows ++ tuple ∷ [])
passed-new {context} {table} {after} {p} {place} {tuple} {rows} next is grows =
    passed-row context table after p place tuple tuple rows (rows ++ tuple ∷ []) next is (contains-refl tuple) (λ t. holds-push rows tuple t)
    (All-push (Grows context) rows tuple next.grows grows)

-- by a row that takes it
pub passed-union : {context : QuestionsView} {table after : OpenView} {p i : ℕ} {place : ℕ × ℕ} {tuple : List (Option ℕ)} {rows grown : List (List (Option ℕ))}
    → IsNext context table p place tuple rows → IsUnionAt rows grown tuple i → after ≡ row_closed table p (get_or grown i [])
    → get_or grown i [] ≡ union (get_or rows i []) tuple → All (Grows context) grown
    → IsPassed context table after p place grown
passed-union {context} {table} {after} {p} {i} {place} {tuple} {rows} {grown} next union_at is read grows =
    passed-row context table after p place tuple (union (get_or rows i []) tuple) rows grown next (is ∙ ap (row_closed table p) read)
    (union-contains_tuple (get_or rows i []) tuple union_at.agree)
    (λ t. ap (λ list. holds list t) union_at.put ∙ holds-set rows i (union (get_or rows i []) tuple) t union_at.within
    (union-contains_row (get_or rows i []) tuple)) grows

-- the place of the first open tuple is in play
first-in_play : (table : OpenView) (p : ℕ) (place : ℕ × ℕ) → Split table p place → is_in_play table.model table.slice p place ≡ true
first-in_play table p place parts = at (is_in_play table.model table.slice p) place table.places parts.rest parts.is
  where
    at : (test : ℕ × ℕ → Bool) (a : ℕ × ℕ) (places rest : List (ℕ × ℕ)) → filter test places ≡ a ∷ rest → test a ≡ true
    at test a [] rest e = absurd (nil_cons e)
      where
        nil_cons : [] ≡ a ∷ rest → ⊥
        nil_cons e = cc
    at test a (b ∷ places) rest e = by_test (test b) refl e (at test a places rest)
      where
        head : (xs : List (ℕ × ℕ)) → b ∷ xs ≡ a ∷ rest → b ≡ a
        head xs h = cc

        by_test : (c : Bool) → test b ≡ c → cond c (b ∷ filter test places) (filter test places) ≡ a ∷ rest → (filter test places ≡ a ∷ rest → test a ≡ true)
            → test a ≡ true
        by_test true is h later = ap test (sym (head (filter test places) h)) ∙ is
        by_test false is h later = later h

-- where it is omitted
pub passed-omitted : {context : QuestionsView} {table after : OpenView} {p : ℕ} {place : ℕ × ℕ} {tuple : List (Option ℕ)} {rows : List (List (Option ℕ))}
    → IsNext context table p place tuple rows → after ≡ closed table place → IsPassed context table after p place rows
passed-omitted {context} {table} {after} {p} {place} {tuple} {rows} next is =
    let parts = split table p place next.first in
    let rest : List (List (Option ℕ)) = map (tuple_at table.model) parts.rest in
    let left = open_places-closed_first table p place parts.rest next.rises parts.is in
    record {
      moment =
          ap (λ (t : OpenView). open_tuples t p) is ∙ ap (map (tuple_at table.model)) left ∙ sym (others-open context table p place tuple rows next parts)
          ∙ ap (λ list. filter (is_uncovered rows) (drop 1 list)) (sym (others context table p place tuple rows next parts));
      behind = subst (All (λ other. is_behind place other ≡ true)) (sym (ap (λ (t : OpenView). open_places t p) is ∙ left))
          (behind_rest table p place parts next.rises);
      keeps =
          subst (λ (t : OpenView). Keeps table t p) (sym is) (record {
            model = refl;
            slice = refl;
            others = λ q apart. open_places-closed_other table p q place apart (first-in_play table p place parts);
            rises = λ rises. Rises-filter (λ other. not (is_place place other)) table.places rises;
          });
      grows = next.grows;
    }

-- the tuple is a partial row of the slice
pub next-grows : {context : QuestionsView} {table : OpenView} {p : ℕ} {place : ℕ × ℕ} {tuple : List (Option ℕ)} {rows : List (List (Option ℕ))}
    → IsNext context table p place tuple rows → Grows context tuple
next-grows {context} {table} {p} {place} {tuple} {rows} next =
    let parts = split table p place next.first in
    (All-head (IsInPlay context.model context.slice p) tuple (map (tuple_at table.model) parts.rest)
    (subst (All (IsInPlay context.model context.slice p)) (others context table p place tuple rows next parts) next.in_play)).grows

-- it is in play, no row contains it, and the rows that aren't among the unfilled can't agree with it
pub next-in_play : (context : QuestionsView) (table : OpenView) (p : ℕ) (place : ℕ × ℕ) (tuple : List (Option ℕ)) (rows : List (List (Option ℕ)))
    → IsNext context table p place tuple rows
    → IsInPlay context.model context.slice p tuple × (is_uncovered rows tuple ≡ true)
next-in_play context table p place tuple rows next =
    let parts = split table p place next.first in
    let whole = others context table p place tuple rows next parts in (
      All-head (IsInPlay context.model context.slice p) tuple (map (tuple_at table.model) parts.rest)
          (subst (All (IsInPlay context.model context.slice p)) whole next.in_play),
      All-head (λ t. is_uncovered rows t ≡ true) tuple (map (tuple_at table.model) parts.rest)
          (subst (All (λ t. is_uncovered rows t ≡ true)) whole next.uncovered),
    )

-- the rows that a tuple may join: their numbers rise, and no other row agrees with it
pub record Joinable (rows : List (List (Option ℕ))) (tuple : List (Option ℕ)) (numbers : List ℕ) : Type 0 where
  pub rise : RisesFrom 0 (length rows) numbers
  pub others : (i : ℕ) → i < length rows → is_among numbers i ≡ false → agrees (get_or rows i []) tuple ≡ false

pub joinable : {context : QuestionsView} {table : OpenView} {p : ℕ} {place : ℕ × ℕ} {tuple : List (Option ℕ)} {rows : List (List (Option ℕ))}
    {columns numbers : List ℕ} {unfilled : UnfilledLists}
    → IsNext context table p place tuple rows → columns ≡ columns_to context.model context.slice p
    → HasUnfilled columns p (length (param_at context.model.params p).values) rows unfilled
    → IfSome (get_or tuple p None) (λ v. numbers ≡ candidates unfilled v) → Joinable rows tuple numbers
joinable {context} {table} {p} {place} {tuple} {rows} {columns} {numbers} {unfilled} next is are put =
    by_cell (get_or tuple p None) refl put (value-within context.model tuple p own.0.grows.of.fits)
  where
    own : IsInPlay context.model context.slice p tuple × (is_uncovered rows tuple ≡ true)
    own = next-in_play context table p place tuple rows next

    by_cell : (cell : Option ℕ) → get_or tuple p None ≡ cell → IfSome cell (λ v. numbers ≡ candidates unfilled v)
        → IfSome cell (λ v. v < length (param_at context.model.params p).values) → Joinable rows tuple numbers
    by_cell None none _ _ = absurd (false≢true (sym (ap (λ (cell : Option ℕ). is_some cell) none) ∙ own.0.own))
    by_cell (Some v) has same within = record {
      rise = subst (RisesFrom 0 (length rows)) (sym same) (candidates-rise v are within);
      others =
          λ i below other.
          other-differs columns p (length (param_at context.model.params p).values) v rows unfilled tuple i are has own.1
          (own.0.grows.of.fits.as_long ∙ sym (next.grows i [] below).of.fits.as_long)
          (λ q given. ap (λ list. is_among list q) is ∙ own.0.columns q given) below (sym (ap (λ list. is_among list i) same) ∙ other);
    }

-- joining asks first
pub settle-stops : (context : QuestionsView) (tuple question : List (Option ℕ)) (rows : List (List (Option ℕ)))
    → first_spent context (join (extends context) tuple rows).asked ≡ Some question
    → first_spent context (settle (extends context) tuple rows).asked ≡ Some question
settle-stops context tuple question rows over = by_taken (join (extends context) tuple rows).taken refl
  where
    by_taken : (b : Bool) → b ≡ (join (extends context) tuple rows).taken → first_spent context (settle (extends context) tuple rows).asked ≡ Some question
    by_taken true taken = ap (λ (g : Grown). first_spent context g.asked) (settle-taken (extends context) tuple rows taken) ∙ over
    by_taken false alone =
        ap (first_spent context) (settle-alone_asked (extends context) tuple rows alone)
        ∙ find-earlier (is_over context) question (join (extends context) tuple rows).asked (tuple ∷ []) over

-- and then it is asked of the tuple alone
pub settle-asks : (context : QuestionsView) (tuple : List (Option ℕ)) (rows : List (List (Option ℕ))) → false ≡ (join (extends context) tuple rows).taken
    → first_spent context (join (extends context) tuple rows).asked ≡ None → first_spent context (settle (extends context) tuple rows).asked
    ≡ first_spent context (tuple ∷ [])
settle-asks context tuple rows alone none =
    ap (first_spent context) (settle-alone_asked (extends context) tuple rows alone) ∙ find-later (is_over context) (join (extends context) tuple rows).asked
    (tuple ∷ []) none

-- a row took the tuple, and this is the union
pub record IsTakenAt (rows grown : List (List (Option ℕ))) (tuple : List (Option ℕ)) (i : ℕ) (read : List (Option ℕ)) : Type 0 where
  pub union_at : IsUnionAt rows grown tuple i
  pub within : i < length grown
  pub read_is : read ≡ get_or grown i []

pub taken_at : {rows grown : List (List (Option ℕ))} {tuple read : List (Option ℕ)} {i : ℕ} {at : Option ℕ}
    → at ≡ Some i → IfSome at (λ k. IsUnionAt rows grown tuple k) → IfSome at (λ k. read ≡ get_or grown k []) → IsTakenAt rows grown tuple i read
taken_at {rows} {grown} {tuple} {read} {i} {at} found union_at is =
    let put : IsUnionAt rows grown tuple i = subst (λ (o : Option ℕ). IfSome o (λ k. IsUnionAt rows grown tuple k)) found union_at in
    record {
      union_at = put;
      within = omega (arith, put.within, ap length put.put, length-set rows i (union (get_or rows i []) tuple));
      read_is = subst (λ (o : Option ℕ). IfSome o (λ k. read ≡ get_or grown k [])) found is;
    }

-- no row took it
pub record IsAlone (context : QuestionsView) (tuple : List (Option ℕ)) (rows : List (List (Option ℕ))) : Type 0 where
  pub alone : false ≡ (join (extends context) tuple rows).taken
  pub unspent : first_spent context (join (extends context) tuple rows).asked ≡ None

pub is_alone : (context : QuestionsView) (tuple : List (Option ℕ)) (rows : List (List (Option ℕ))) {at : Option ℕ} → at ≡ None
    → is_some at ≡ (join (extends context) tuple rows).taken → first_spent context (join (extends context) tuple rows).asked ≡ None → IsAlone context tuple rows
is_alone context tuple rows {at} none taken unspent = record { alone = ap (λ (o : Option ℕ). is_some o) (sym none) ∙ taken; unspent = unspent }
