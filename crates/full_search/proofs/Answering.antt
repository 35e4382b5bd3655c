-- What an answer tells.
use Rattle.std.proofs.Common.{◌≡◌, ℕ, Bool, true, false, cond, refl, ◌∙◌, sym}
use Rattle.definitions.specs.declared.effort.Effort.{Effort}
use Rattle.definitions.specs.believed.Search.{exceeds}
use Rattle.feasibility.specs.declared.answer.Answer.{Answer}
use Rattle.feasibility.specs.declared.answer.Answer.TheVariants.{Yes, No, Spent}
use Rattle.full_search.specs.Questions.{answer_within}

-- Yes and No tell what the question costs and whether there is a row, Spent what it costs
pub record AnswerTells (answer : Answer) (found over : Bool) : Type 0 where
  pub yes : answer ≡ Yes → (found ≡ true) × (over ≡ false)
  pub no : answer ≡ No → (found ≡ false) × (over ≡ false)
  pub spent : answer ≡ Spent → over ≡ true

pub answer_tells : (answer : Answer) (found : Bool) (cost : ℕ) (effort : Effort) → answer ≡ answer_within found cost effort
    → AnswerTells answer found (exceeds effort cost)
answer_tells answer found cost effort told = by_tests found (exceeds effort cost) told
  where
    yes_no : Yes ≡ No → ⊥
    yes_no e = cc

    yes_spent : Yes ≡ Spent → ⊥
    yes_spent e = cc

    no_spent : No ≡ Spent → ⊥
    no_spent e = cc

    by_tests : (found over : Bool) → answer ≡ cond over Spent (cond found Yes No) → AnswerTells answer found over
    by_tests found true told = record {
      yes = λ is. absurd (yes_spent (sym is ∙ told));
      no = λ is. absurd (no_spent (sym is ∙ told));
      spent = λ is. refl;
    }
    by_tests true false told = record {
      yes = λ is. (refl, refl);
      no = λ is. absurd (yes_no (sym told ∙ is));
      spent = λ is. absurd (yes_spent (sym told ∙ is));
    }
    by_tests false false told = record {
      yes = λ is. absurd (yes_no (sym is ∙ told));
      no = λ is. (refl, refl);
      spent = λ is. absurd (no_spent (sym told ∙ is));
    }
