-- Vertical growth, tuple by tuple.
use Rattle.std.proofs.Common.{◌≡◌, ℕ, ◌<◌, Bool, true, List, [], ◌∷◌, ◌++◌, map, length, drop, filter, Option, Some, None, All, ◌∙◌, sym, ap, subst, refl, arith, append_assoc}
use Rattle.std.specs.Prelude.{slice_get}
use Rattle.std.proofs.lemmas.List.{append-nil, map-append}
use Rattle.std.proofs.lemmas.List.Elements.{All-head, All-tail, All-filter, filter_passes}
use Rattle.std.proofs.lemmas.Option.{none-some, same_Some}
use Rattle.ipog_grow.proofs.Spending.{find-later, find-earlier}
use Rattle.value_text.proofs.ListLemmas.{length-filter-le}
use Rattle.definitions.specs.believed.Growth.{Grown, down, settle, is_uncovered}
use Rattle.definitions.specs.believed.Pairs.{pairs_of}
use Rattle.uncovered_table.specs.Open.{OpenView, IsPlaceOf, is_after, next_open}
use Rattle.uncovered_table.specs.Places.{tuple_at}
use Rattle.ipog_grow.specs.Growing.{IsInPlay, Keeps, open_places, open_tuples}
use Rattle.full_search.specs.Questions.{QuestionsView}
use Rattle.ipog_grow.specs.Asking.{IsNext, IsOpen, IsPassed, extends, first_spent}
use Rattle.ipog_grow.proofs.HorizontalLemmas.{keeps-same, keeps-both}
use Rattle.ipog_grow.proofs.Settling.{passed, followed, down-uncovered}
use Rattle.ipog_grow.proofs.Table.{next_open-first}
use Rattle.ipog_grow.proofs.Trying.{is_over}

-- the open tuples that are left decide
pub record Downing (context : QuestionsView) (p : ℕ) (start table : OpenView) (initial rows : List (List (Option ℕ)))
    (before omitted : List (List (ℕ × ℕ))) (from : Option (ℕ × ℕ)) : Type 0 where
  pub given : (down (extends context) (open_tuples start p) initial).rows ≡ (down (extends context) (open_tuples table p) rows).rows
  pub asked : first_spent context (down (extends context) (open_tuples start p) initial).asked
      ≡ first_spent context (down (extends context) (open_tuples table p) rows).asked
  pub left_out : before ++ map pairs_of (down (extends context) (open_tuples start p) initial).omitted ≡ omitted
      ++ map pairs_of (down (extends context) (open_tuples table p) rows).omitted
  pub is_open : IsOpen context table p rows
  pub keeps : Keeps start table p
  pub behind : All (λ place. is_after from place ≡ true) (open_places table p)

pub downing-start : (context : QuestionsView) (p : ℕ) (table : OpenView) (rows : List (List (Option ℕ))) (omitted : List (List (ℕ × ℕ)))
    → IsOpen context table p rows → Downing context p table table rows rows omitted omitted None
downing-start context p table rows omitted is = record {
  given = refl;
  asked = refl;
  left_out = refl;
  is_open = is;
  keeps = keeps-same table p;
  behind = λ i d within. refl;
}

-- the tuple of the next place
pub downing-next : {context : QuestionsView} {p : ℕ} {start table : OpenView} {initial rows : List (List (Option ℕ))}
    {before omitted : List (List (ℕ × ℕ))} {from : Option (ℕ × ℕ)} {place : ℕ × ℕ} {tuple : List (Option ℕ)}
    → Downing context p start table initial rows before omitted from → next_open table p from ≡ Some place → IsPlaceOf table place
    → tuple ≡ tuple_at table.model place
    → IsNext context table p place tuple rows
downing-next {context} {p} {start} {table} {initial} {rows} {before} {omitted} {from} {place} {tuple} downing found own same = record {
  of = downing.is_open.of;
  own = own;
  first = sym (next_open-first table p from downing.behind) ∙ found;
  tuple_is = same;
  rises = downing.is_open.rises;
  uncovered = downing.is_open.uncovered;
  in_play = downing.is_open.in_play;
  grows = downing.is_open.grows;
}

-- the open tuples by the first
record Parts (context : QuestionsView) (table : OpenView) (p : ℕ) (tuple : List (Option ℕ)) (rows : List (List (Option ℕ))) : Type 0 where
  rest : List (List (Option ℕ))
  all : open_tuples table p ≡ tuple ∷ rest
  first : is_uncovered rows tuple ≡ true

parts : (context : QuestionsView) (table : OpenView) (p : ℕ) (place : ℕ × ℕ) (tuple : List (Option ℕ)) (rows : List (List (Option ℕ)))
    → IsNext context table p place tuple rows → Parts context table p tuple rows
parts context table p place tuple rows next = by_places (open_places table p) refl next.first
  where
    by_places : (places : List (ℕ × ℕ)) → open_places table p ≡ places → slice_get places 0 ≡ Some place → Parts context table p tuple rows
    by_places [] is e = absurd (none-some place e)
    by_places (a ∷ rest) is e =
        let whole : open_tuples table p ≡ tuple ∷ map (tuple_at table.model) rest =
        ap (map (tuple_at table.model)) is ∙ ap (λ (t : List (Option ℕ)). t ∷ map (tuple_at table.model) rest)
        (ap (tuple_at table.model) (same_Some a place e) ∙ sym next.tuple_is) in
        record {
          rest = map (tuple_at table.model) rest;
          all = whole;
          first = All-head (λ t. is_uncovered rows t ≡ true) tuple (map (tuple_at table.model) rest)
              (subst (All (λ t. is_uncovered rows t ≡ true)) whole next.uncovered);
        }

-- what they give by the first
down_first : (context : QuestionsView) (table : OpenView) (p : ℕ) (tuple : List (Option ℕ)) (rows : List (List (Option ℕ)))
    (some : Parts context table p tuple rows)
    → down (extends context) (open_tuples table p) rows ≡ followed (settle (extends context) tuple rows)
    (down (extends context) some.rest (settle (extends context) tuple rows).rows)
down_first context table p tuple rows some =
    ap (λ list. down (extends context) list rows) some.all
    ∙ ap (λ (b : Bool). followed (passed b rows (settle (extends context) tuple rows))
    (down (extends context) some.rest (passed b rows (settle (extends context) tuple rows)).rows)) some.first

All-drop_first : (P : List (Option ℕ) → Type 0) (xs : List (List (Option ℕ))) → All P xs → All P (drop 1 xs)
All-drop_first P [] all = all
All-drop_first P (x ∷ xs) all = All-tail P x xs all

-- one tuple more
pub downing-more : {context : QuestionsView} {p : ℕ} {start table after : OpenView} {initial rows grown : List (List (Option ℕ))}
    {before omitted more : List (List (ℕ × ℕ))} {from : Option (ℕ × ℕ)} {place : ℕ × ℕ} {tuple : List (Option ℕ)}
    → Downing context p start table initial rows before omitted from → IsNext context table p place tuple rows
    → first_spent context (settle (extends context) tuple rows).asked ≡ None → grown ≡ (settle (extends context) tuple rows).rows
    → more ≡ omitted ++ map pairs_of (settle (extends context) tuple rows).omitted → IsPassed context table after p place grown
    → Downing context p start after initial grown before more (Some place)
downing-more {context} {p} {start} {table} {after} {initial} {rows} {grown} {before} {omitted} {more} {from} {place} {tuple} downing next none is left passes =
    let some = parts context table p place tuple rows next in
    let here = down_first context table p tuple rows some in
    let rest : down (extends context) some.rest (settle (extends context) tuple rows).rows ≡ down (extends context) (open_tuples after p) grown =
    ap (down (extends context) some.rest) (sym is) ∙ sym (down-uncovered (extends context) some.rest grown)
    ∙ ap (λ list. down (extends context) list grown) (ap (λ list. filter (is_uncovered grown) (drop 1 list)) (sym some.all) ∙ sym passes.moment) in
    let later : List (List (Option ℕ)) = (down (extends context) some.rest (settle (extends context) tuple rows).rows).omitted in
    record {
      given = downing.given ∙ ap (λ (g : Grown). g.rows) here ∙ ap (λ (g : Grown). g.rows) rest;
      asked =
          downing.asked ∙ ap (λ (g : Grown). first_spent context g.asked) here
          ∙ find-later (is_over context) (settle (extends context) tuple rows).asked
          (down (extends context) some.rest (settle (extends context) tuple rows).rows).asked none
          ∙ ap (λ (g : Grown). first_spent context g.asked) rest;
      left_out =
          downing.left_out ∙ ap (λ (g : Grown). omitted ++ map pairs_of g.omitted) here
          ∙ ap (λ list. omitted ++ list) (map-append pairs_of (settle (extends context) tuple rows).omitted later)
          ∙ sym (append_assoc omitted (map pairs_of (settle (extends context) tuple rows).omitted) (map pairs_of later))
          ∙ ap (λ list. list ++ map pairs_of later) (sym left)
          ∙ ap (λ (g : Grown). more ++ map pairs_of g.omitted) rest;
      is_open = record {
        of = (passes.keeps.model ∙ downing.is_open.of.0, passes.keeps.slice ∙ downing.is_open.of.1);
        rises = passes.keeps.rises downing.is_open.rises;
        uncovered = subst (All (λ t. is_uncovered grown t ≡ true)) (sym passes.moment) (filter_passes (is_uncovered grown) (drop 1 (open_tuples table p)));
        in_play =
            subst (All (IsInPlay context.model context.slice p)) (sym passes.moment)
            (All-filter (is_uncovered grown) (IsInPlay context.model context.slice p) (drop 1 (open_tuples table p))
            (All-drop_first (IsInPlay context.model context.slice p) (open_tuples table p) downing.is_open.in_play));
        grows = passes.grows;
      };
      keeps = keeps-both start table after p downing.keeps passes.keeps;
      behind = passes.behind;
    }

-- a question costs more than it may
pub downing-spent : {context : QuestionsView} {p : ℕ} {start table : OpenView} {initial rows : List (List (Option ℕ))}
    {before omitted : List (List (ℕ × ℕ))} {from : Option (ℕ × ℕ)} {place : ℕ × ℕ} {tuple question : List (Option ℕ)}
    → Downing context p start table initial rows before omitted from → IsNext context table p place tuple rows
    → first_spent context (settle (extends context) tuple rows).asked ≡ Some question
    → first_spent context (down (extends context) (open_tuples start p) initial).asked ≡ Some question
downing-spent {context} {p} {start} {table} {initial} {rows} {before} {omitted} {from} {place} {tuple} {question} downing next over =
    let some = parts context table p place tuple rows next in
    downing.asked ∙ ap (λ (g : Grown). first_spent context g.asked) (down_first context table p tuple rows some)
    ∙ find-earlier (is_over context) question (settle (extends context) tuple rows).asked
    (down (extends context) some.rest (settle (extends context) tuple rows).rows).asked over

-- no tuple is left
pub record Downed (context : QuestionsView) (p : ℕ) (start : OpenView) (initial rows : List (List (Option ℕ)))
    (before omitted : List (List (ℕ × ℕ))) : Type 0 where
  pub asked : first_spent context (down (extends context) (open_tuples start p) initial).asked ≡ None
  pub given : rows ≡ (down (extends context) (open_tuples start p) initial).rows
  pub left_out : omitted ≡ before ++ map pairs_of (down (extends context) (open_tuples start p) initial).omitted

pub downing-end : {context : QuestionsView} {p : ℕ} {start table : OpenView} {initial rows : List (List (Option ℕ))}
    {before omitted : List (List (ℕ × ℕ))} {from : Option (ℕ × ℕ)}
    → Downing context p start table initial rows before omitted from → next_open table p from ≡ None → Downed context p start initial rows before omitted
downing-end {context} {p} {start} {table} {initial} {rows} {before} {omitted} {from} downing none =
    let nothing : open_tuples table p ≡ [] = ap (map (tuple_at table.model))
    (empty (open_places table p) (sym (next_open-first table p from downing.behind) ∙ none)) in
    record {
      asked = downing.asked ∙ ap (λ list. first_spent context (down (extends context) list rows).asked) nothing;
      given = sym (downing.given ∙ ap (λ list. (down (extends context) list rows).rows) nothing);
      left_out = sym (downing.left_out ∙ ap (λ list. omitted ++ map pairs_of (down (extends context) list rows).omitted) nothing ∙ append-nil omitted);
    }
  where
    empty : (places : List (ℕ × ℕ)) → slice_get places 0 ≡ None → places ≡ []
    empty [] e = refl
    empty (a ∷ places) e = absurd (some_none e)
      where
        some_none : Some a ≡ None → ⊥
        some_none h = cc

-- with each tuple the open ones become fewer
pub downing-falls : {context : QuestionsView} {p : ℕ} {table after : OpenView} {place : ℕ × ℕ} {tuple : List (Option ℕ)}
    {rows grown : List (List (Option ℕ))} → IsNext context table p place tuple rows
    → IsPassed context table after p place grown → length (open_tuples after p) < length (open_tuples table p)
downing-falls {context} {p} {table} {after} {place} {tuple} {rows} {grown} next passes =
    let some = parts context table p place tuple rows next in
    let fewer = length-filter-le (is_uncovered grown) some.rest in
    let left : length (open_tuples after p) ≡ length (filter (is_uncovered grown) some.rest) =
    ap length (passes.moment ∙ ap (λ list. filter (is_uncovered grown) (drop 1 list)) some.all) in
    omega (arith, ap length some.all, fewer, left)
