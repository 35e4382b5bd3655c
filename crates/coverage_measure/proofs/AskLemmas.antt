-- Questions that are kept, and what an answer tells.
use Rattle.std.proofs.Common.{◌≡◌, ℕ, List, [], ◌∷◌, ◌++◌, map, length, take, get_or, find, All, Some, Bool, true, false, cond, Option, refl, ◌∙◌}
use Rattle.std.proofs.Common.{sym, ap, subst, arith}
use Rattle.std.specs.Prelude.{slice_get, option_map}
use Rattle.std.proofs.lemmas.List.Elements.{All-append, All-cons, All-nil, All-take}
use Rattle.std.proofs.Math.ListN.{get_or-map}
use Rattle.std.proofs.lemmas.Option.{get_or_from_slice_get, slice_get-map}
use Rattle.cov_model.specs.Preference.{OrdersValues}
use Rattle.cov_model.specs.believed.Sound.{IsSound, ModelView}
use Rattle.cov_model.specs.declared.slice.Slice.{Slice}
use Rattle.definitions.specs.declared.effort.Effort.{Effort}
use Rattle.definitions.specs.believed.Completion.{is_extendable}
use Rattle.cov_model.specs.believed.Slices.{slice_values}
use Rattle.definitions.specs.believed.Demand.{tuples_in}
use Rattle.definitions.specs.believed.Figures.{all_rows, is_served}
use Rattle.definitions.specs.believed.Search.{first_over, plain_cost}
use Rattle.definitions.specs.SliceRows.{IsOfSlice, IsSliceOf}
use Rattle.feasibility.specs.Tree.{no_values}
use Rattle.feasibility.specs.declared.answer.Answer.{Answer}
use Rattle.feasibility.specs.declared.answer.Answer.TheVariants.{Yes, No}
use Rattle.tuple_index.specs.Places.{RisesFrom, has_part}
use Rattle.full_search.specs.Questions.{QuestionsView, answer_within}
use Rattle.full_search.proofs.Answering.{answer_tells}
use Rattle.feasibility.proofs.Extendable.{plain_search_is_exact}
use Rattle.tuple_index.proofs.PlaceLemmas.{slice_get-append_right}
use Rattle.coverage_measure.specs.Asking.{IsFor, is_above, is_found, tally, with_values}
use Rattle.coverage_measure.proofs.QuestionLemmas.{above_are_over, found_are_served}
use Rattle.coverage_measure.proofs.ValueLemmas.{values_lead}
use Rattle.coverage_measure.specs.declared.asking.KeptQuestions.{KeptQuestions}

-- questions about one more slice behind some of those that are kept
pub kept_more : (m : ModelView) (pref : List (List ℕ)) (effort : Effort) (n : ℕ) (before part after : List KeptQuestions) (one : KeptQuestions) → All (IsFor m pref effort) before
    → part ≡ take n before → IsFor m pref effort one → after ≡ part ++ one ∷ [] → All (IsFor m pref effort) after
kept_more m pref effort n before part after one each part_is own is =
    subst (All (IsFor m pref effort)) (sym is)
    (All-append (IsFor m pref effort) part (one ∷ []) (subst (All (IsFor m pref effort)) (sym part_is) (All-take (IsFor m pref effort) n before each))
    (All-cons (IsFor m pref effort) one [] own (All-nil (IsFor m pref effort))))

-- their place is the last one
pub last_place : (part after : List KeptQuestions) (one : KeptQuestions) (place : ℕ) → place ≡ length part → after ≡ part ++ one ∷ []
    → slice_get (map (λ one. one.slice) after) place ≡ Some one.slice
last_place part after one place last is =
    ap (λ (all : List KeptQuestions). slice_get (map slice all) place) is ∙ slice_get-map slice (part ++ one ∷ []) place
    ∙ ap (option_map slice) (slice_get-append_right part (one ∷ []) place 0 (omega (arith, last)))
  where
    slice : KeptQuestions → Slice
    slice one = one.slice

-- and the questions at a slice's place are about the slice
pub slice_at : (kept : List KeptQuestions) (slice : Slice) (place : ℕ) (one : KeptQuestions) → slice_get (map (λ one. one.slice) kept) place ≡ Some slice
    → one ≡ get_or kept place one → one.slice ≡ slice
slice_at kept slice place one is here =
    ap slice_for here ∙ sym (get_or-map slice_for kept place one) ∙ get_or_from_slice_get (map slice_for kept) place slice (slice_for one) is
  where
    slice_for : KeptQuestions → Slice
    slice_for one = one.slice

-- what it is asked of: the tuples of the set in the slice
pub record AreTuples (m : ModelView) (pref : List (List ℕ)) (effort : Effort) (set : List ℕ) (slice own : Slice) (cells : List (Option ℕ)) : Type 0 where
  pub rows : with_values (slice_values m own) set cells ≡ tuples_in m set slice
  pub count : tally (is_found m pref own) (with_values (slice_values m own) set cells) ≡ tally (is_served m (all_rows m)) (tuples_in m set slice)
  pub over : find (is_above m pref own effort) (with_values (slice_values m own) set cells) ≡ first_over m pref effort (tuples_in m set slice)

pub are_tuples : (m : ModelView) (pref : List (List ℕ)) (effort : Effort) (set : List ℕ) (slice own : Slice) (cells : List (Option ℕ)) → IsSound m
    → OrdersValues m pref
    → IsSliceOf m slice → RisesFrom 0 (length m.params) set → has_part set slice ≡ true → own ≡ slice → cells ≡ no_values m
    → AreTuples m pref effort set slice own cells
are_tuples m pref effort set slice own cells sound orders is rises part same none =
    let rows : with_values (slice_values m own) set cells ≡ tuples_in m set slice =
    ap (λ s. with_values (slice_values m s) set cells) same ∙ ap (with_values (slice_values m slice) set) none ∙ values_lead m set slice rises part in
    record {
      rows = rows;
      count =
          ap (λ s. tally (is_found m pref s) (with_values (slice_values m own) set cells)) same ∙ ap (tally (is_found m pref slice)) rows
          ∙ found_are_served m pref set slice sound orders is;
      over =
          ap (λ s. find (is_above m pref s effort) (with_values (slice_values m own) set cells)) same ∙ ap (find (is_above m pref slice effort)) rows
          ∙ above_are_over m pref set slice effort sound orders is;
    }

-- the answer about a partial row tells whether it is extendable
abbrev answer_about : QuestionsView → List (Option ℕ) → Answer
answer_about asked cells = answer_within (is_extendable asked.model asked.slice cells) (plain_cost asked.model asked.prefs asked.slice cells) asked.effort

pub answered_yes : (asked : QuestionsView) (cells : List (Option ℕ)) (given : Answer) → given ≡ answer_about asked cells → given ≡ Yes
    → is_extendable asked.model asked.slice cells ≡ true
answered_yes asked cells given is told =
    ((answer_tells given (is_extendable asked.model asked.slice cells) (plain_cost asked.model asked.prefs asked.slice cells) asked.effort is).yes told).0

pub answered_no : (asked : QuestionsView) (cells : List (Option ℕ)) (given : Answer) → given ≡ answer_about asked cells → given ≡ No
    → is_extendable asked.model asked.slice cells ≡ false
answered_no asked cells given is told =
    ((answer_tells given (is_extendable asked.model asked.slice cells) (plain_cost asked.model asked.prefs asked.slice cells) asked.effort is).no told).0

-- so it counts for one or none
pub row_told : (m : ModelView) (pref : List (List ℕ)) (effort : Effort) (one : KeptQuestions) (asked : QuestionsView) (cells : List (Option ℕ))
    (found : Bool) → IsSound m → OrdersValues m pref
    → IsFor m pref effort one → IsOfSlice m one.slice cells → asked ≡ one.questions → is_extendable asked.model asked.slice cells ≡ found
    → cond found 1 0 ≡ tally (is_found m pref one.slice) (cells ∷ [])
row_told m pref effort one asked cells found sound orders is of same told =
    sym (ap (λ passes. length (cond passes (cells ∷ []) []))
    ((plain_search_is_exact m pref one.slice cells sound orders is.slice of).0
    ∙ sym (ap (λ (s : QuestionsView). is_extendable s.model s.slice cells) (same ∙ is.questions)) ∙ told) ∙ by_found found)
  where
    by_found : (b : Bool) → length (cond b (cells ∷ []) []) ≡ cond b 1 0
    by_found true = refl
    by_found false = refl
