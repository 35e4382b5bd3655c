-- Completing partial rows one after another.
use Rattle.std.proofs.Common.{◌≡◌, ℕ, ◌+◌, ◌<◌, ◌≤◌, Bool, false, All, List, [], ◌∷◌, ◌++◌, take, get_or, length, filter_map}
use Rattle.std.proofs.Common.{Option, Some, None, is_some, ◌∙◌, sym, ap, subst, refl}
use Rattle.std.specs.List.{cons_option}
use Rattle.std.proofs.lemmas.Bool.{false≢true}
use Rattle.std.proofs.lemmas.List.{get_or_default, take_all, take_more}
use Rattle.std.proofs.lemmas.List.Elements.{All-weaker, filter_map-append}
use Rattle.feasibility.specs.declared.answer.Answer.{Answer}
use Rattle.feasibility.specs.declared.answer.Answer.TheVariants.{No}
use Rattle.feasibility.proofs.Extendable.{completed_is_extendable}
use Rattle.definitions.specs.believed.Search.{exceeds, plain_cost, question_cost}
use Rattle.full_search.specs.Questions.{QuestionsView, answer_within}
use Rattle.full_search.proofs.Answering.{answer_tells}
use Rattle.ipog_grow.specs.Asking.{IsSoundContext, Grows, extends, first_spent}
use Rattle.ipog_grow.specs.Completing.{completed}
use Rattle.ipog_grow.specs.Rows.{AreDone}
use Rattle.ipog_grow.proofs.InPlace.{done-more, done-none, done-read}
use Rattle.ipog_grow.proofs.Spending.{find-more, find-at}

-- what isn't extendable has no completion
pub none_completed : (context : QuestionsView) (cells : List (Option ℕ)) (answer : Answer) → IsSoundContext context → Grows context cells
    → answer ≡ answer_within (extends context cells) (plain_cost context.model context.prefs context.slice cells) context.effort → answer ≡ No
    → completed context cells ≡ None
none_completed context cells answer is grows told fails =
    none (completed context cells)
    (completed_is_extendable context.model context.prefs context.slice cells is.orders is.slice grows.of
    ∙ ((answer_tells answer (extends context cells) (plain_cost context.model context.prefs context.slice cells) context.effort told).no fails).0)
  where
    none : (row : Option (List (Option ℕ))) → is_some row ≡ false → row ≡ None
    none None e = refl
    none (Some row) e = absurd (false≢true (sym e))

-- one more partial row adds its completion
completed-more : (f : List (Option ℕ) → Option (List (Option ℕ))) (grown : List (List (Option ℕ))) (i : ℕ) → i < length grown
    → filter_map f (take (i + 1) grown) ≡ filter_map f (take i grown) ++ cons_option (f (get_or grown i [])) []
completed-more f grown i within =
    ap (filter_map f) (take_more grown i [] within) ∙ filter_map-append f (take i grown) (get_or grown i [] ∷ [])

-- the grown rows before this place are completed, and no question of theirs cost more than it may
pub record Completes (context : QuestionsView) (grown rows : List (List (Option ℕ))) (i count : ℕ) (room : List (Option ℕ)) : Type 0 where
  pub done : AreDone grown rows i count (filter_map (completed context) (take i grown))
  pub unspent : first_spent context (take i grown) ≡ None
  pub long : All (λ row. length row ≡ length context.model.params) rows
  pub room_fits : length room ≡ length context.model.params

abbrev is_over : QuestionsView → List (Option ℕ) → Bool
is_over context cells = exceeds context.effort (question_cost context.model context.prefs cells)

pub completes-none : (context : QuestionsView) (grown : List (List (Option ℕ))) (room : List (Option ℕ))
    → All (Grows context) grown → length room ≡ length context.model.params → Completes context grown grown 0 0 room
completes-none context grown room grows fits = record {
  done = done-none grown;
  unspent = refl;
  long = λ i d within. (grows i d within).of.fits.as_long;
  room_fits = fits;
}

module _ (context now : QuestionsView) (same : now ≡ context) (grown rows : List (List (Option ℕ))) (i count : ℕ) (room : List (Option ℕ))
    (before : Completes context grown rows i count room) (within : i < length grown) where
  abbrev cells : List (Option ℕ)
  cells = get_or rows i []

  -- the partial row at this place has not changed
  pub completes-read : cells ≡ get_or grown i []
  completes-read = done-read before.done []

  pub completes-grows : All (Grows context) grown → Grows now cells
  completes-grows grows = subst (λ w. Grows w cells) (sym same) (subst (Grows context) (sym completes-read) (grows i [] within))

  here : cells ≡ get_or grown i cells
  here = completes-read ∙ get_or_default grown i [] cells within

  -- one more is completed
  pub completes-next : (rows' : List (List (Option ℕ))) (count' : ℕ) (room' : List (Option ℕ)) → first_spent now (cells ∷ []) ≡ None
      → AreDone rows rows' (i + 1) count' (take count rows ++ cons_option (completed now cells) [])
      → All (λ row. length row ≡ length now.model.params) rows' → length room' ≡ length room → Completes context grown rows' (i + 1) count' room'
  completes-next rows' count' room' unspent done long fits = record {
    done = subst (AreDone grown rows' (i + 1) count') more (done-more before.done within done);
    unspent = find-more (is_over context) grown i cells within before.unspent ∙ ap (λ c. first_spent context (c ∷ [])) (sym here)
        ∙ ap (λ w. first_spent w (cells ∷ [])) (sym same) ∙ unspent;
    long = subst (λ (w : QuestionsView). All (λ row. length row ≡ length w.model.params) rows') same long;
    room_fits = fits ∙ before.room_fits;
  }
    where
      more : take count rows ++ cons_option (completed now cells) [] ≡ filter_map (completed context) (take (i + 1) grown)
      more = ap (λ given. given ++ cons_option (completed now cells) []) before.done.given_are
          ∙ ap (λ w. filter_map (completed context) (take i grown) ++ cons_option (completed w cells) []) same
          ∙ ap (λ c. filter_map (completed context) (take i grown) ++ cons_option (completed context c) []) completes-read
          ∙ sym (completed-more (completed context) grown i within)

  -- or its question is the first that costs more than it may
  pub completes-spent : (question : List (Option ℕ)) → first_spent now (cells ∷ []) ≡ Some question → first_spent context grown ≡ Some question
  completes-spent question spent =
      find-at (is_over context) grown i cells question within before.unspent
      (ap (λ c. first_spent context (c ∷ [])) (sym here) ∙ ap (λ w. first_spent w (cells ∷ [])) (sym same) ∙ spent)

-- all are completed
module _ (context : QuestionsView) (grown rows : List (List (Option ℕ))) (i count : ℕ) (room : List (Option ℕ))
    (before : Completes context grown rows i count room) (all : length grown ≤ i) where
  pub completes-rows : take count rows ≡ filter_map (completed context) grown
  completes-rows = before.done.given_are ∙ ap (filter_map (completed context)) (take_all i grown all)

  pub completes-unspent : first_spent context grown ≡ None
  completes-unspent = ap (first_spent context) (sym (take_all i grown all)) ∙ before.unspent

-- rows of one length stand behind others of that length
pub fits_behind : (n : ℕ) (rows others : List (List (Option ℕ))) → All (λ row. length row ≡ n) rows → All (λ row. length row ≡ n) others
    → All (λ row. All (λ known. length known ≡ length row) rows) others
fits_behind n rows others long others_long =
    λ i d within. All-weaker (λ (known : List (Option ℕ)). length known ≡ n) (λ (known : List (Option ℕ)). length known ≡ length (get_or others i d))
    (λ known is. is ∙ sym (others_long i d within)) rows long
