-- What the answer to a question tells of its cost.
use Rattle.std.proofs.Common.{◌≡◌, ℕ, Bool, cond, List, [], ◌∷◌, Option, Some, None, ◌∙◌, sym, subst, ap, refl}
use Rattle.cov_model.specs.declared.slice.Slice.{Slice}
use Rattle.definitions.specs.declared.effort.Effort.TheVariants.{Full}
use Rattle.definitions.specs.believed.Search.{exceeds, first_over, plain_cost}
use Rattle.std.specs.Prelude.{Err}
use Rattle.ipog_grow.specs.declared.stop.Stop.{Stop}
use Rattle.ipog_grow.specs.declared.stop.Stop.TheVariants as stops
use Rattle.feasibility.specs.declared.answer.Answer.{Answer}
use Rattle.feasibility.specs.declared.answer.Answer.TheVariants.{Yes, No, Spent}
use Rattle.full_search.specs.Questions.{QuestionsView, answer_within}
use Rattle.full_search.proofs.Answering.{AnswerTells, answer_tells}
use Rattle.ipog_grow.specs.Asking.{IsSoundContext, Grows, Told, extends, first_spent}
use Rattle.ipog_grow.proofs.Tuples.{grows-slice}

-- what an answer tells of one question
pub record Asked (context : QuestionsView) (cells : List (Option ℕ)) (answer : Answer) : Type 0 where
  pub yes : answer ≡ Yes → first_spent context (cells ∷ []) ≡ None
  pub no : answer ≡ No → first_spent context (cells ∷ []) ≡ None
  pub spent : answer ≡ Spent → first_spent context (cells ∷ []) ≡ Some cells

pub asked : (context : QuestionsView) (cells : List (Option ℕ)) (answer : Answer) → IsSoundContext context → Grows context cells
    → answer ≡ answer_within (extends context cells) (plain_cost context.model context.prefs context.slice cells) context.effort → Asked context cells answer
asked context cells answer is grows told =
    let tells = subst (λ (slice : Slice). AnswerTells answer (extends context cells) (exceeds context.effort (plain_cost context.model context.prefs slice cells)))
    (sym (grows-slice context.model context.slice cells is.slice grows))
    (answer_tells answer (extends context cells) (plain_cost context.model context.prefs context.slice cells) context.effort told) in
    record {
      yes = λ e. ap first (tells.yes e).1;
      no = λ e. ap first (tells.no e).1;
      spent = λ e. ap first (tells.spent e);
    }
  where
    first : Bool → Option (List (Option ℕ))
    first over = cond over (Some cells) None

-- without a budget no question costs more than it may
pub none-spent : (context : QuestionsView) (questions : List (List (Option ℕ))) → context.effort ≡ Full → first_spent context questions ≡ None
none-spent context questions full =
    ap (λ effort. first_over context.model context.prefs effort questions) full ∙ none-over questions
  where
    none-over : (questions : List (List (Option ℕ))) → first_over context.model context.prefs Full questions ≡ None
    none-over [] = refl
    none-over (question ∷ questions) = none-over questions

-- a fault of a part is one of the whole, where its question is
pub told-err : (A B : Type 0) (stop : Stop) (question : List (Option ℕ)) (part whole : Option (List (Option ℕ)))
    → (part ≡ Some question → whole ≡ Some question)
    → Told {A = A} (Err stop) question part → Told {A = B} (Err stop) question whole
told-err A B stops.Spent question part whole more told = more told
told-err A B stops.NoMemory question part whole more told = tt

-- what the answer about a partial row tells, where it was put in other words
pub record IsAnswered (context : QuestionsView) (cells : List (Option ℕ)) (found : Bool) : Type 0 where
  pub value : found ≡ extends context cells
  pub unspent : first_spent context (cells ∷ []) ≡ None

pub answered : {context now : QuestionsView} {cells put : List (Option ℕ)} {found : Bool} → now ≡ context → put ≡ cells
    → found ≡ extends now put → first_spent now (put ∷ []) ≡ None → IsAnswered context cells found
answered {context} {now} {cells} {put} {found} same is value unspent = record {
  value = value ∙ ap (λ (w : QuestionsView). extends w put) same ∙ ap (extends context) is;
  unspent = ap (λ (c : List (Option ℕ)). first_spent context (c ∷ [])) (sym is) ∙ ap (λ (w : QuestionsView). first_spent w (put ∷ [])) (sym same) ∙ unspent;
}

-- a question about it that costs more than it may is one of the whole
pub told-answer : (A B : Type 0) (stop : Stop) (question : List (Option ℕ)) {context now : QuestionsView} {cells put : List (Option ℕ)}
    {whole : Option (List (Option ℕ))} → now ≡ context → put ≡ cells → (first_spent context (cells ∷ []) ≡ Some question → whole ≡ Some question)
    → Told {A = A} (Err stop) question (first_spent now (put ∷ [])) → Told {A = B} (Err stop) question whole
told-answer A B stop question {context} {now} {cells} {put} {whole} same is more told =
    told-err A B stop question (first_spent context (cells ∷ [])) whole more
    (subst (λ (w : QuestionsView). Told {A = A} (Err stop) question (first_spent w (cells ∷ []))) same
    (subst (λ (c : List (Option ℕ)). Told {A = A} (Err stop) question (first_spent now (c ∷ []))) is told))
