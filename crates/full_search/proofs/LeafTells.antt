-- What the sets tell of a value that a leaf is looked for with.
use Rattle.std.proofs.Common.{◌≡◌, ℕ, ◌<◌, false, List, [], length, Option, Some, None, get_or, ◌∙◌, sym, refl}
use Rattle.std.specs.List.{count_by}
use Rattle.std.specs.Option.{IsSome}
use Rattle.std.proofs.lemmas.Bool.{false≢true}
use Rattle.cov_model.specs.believed.Rows.{is_assigned}
use Rattle.cov_model.specs.believed.Sound.{param_at}
use Rattle.live_sets.specs.Trail.{LiveView}
use Rattle.feasibility.specs.Live.{ShowsFailure, ShowsLive}
use Rattle.feasibility.specs.Refuting.{IsPath, RefuterView, TriesPositive}
use Rattle.feasibility.proofs.NarrowedSets.{count_none}
use Rattle.feasibility.proofs.Paths.{marked_value, unmarked_dead, unmarked_value}
use Rattle.full_search.specs.Closing.{TellsOf}

-- where they show the live values
pub live_tells : (r : RefuterView) (path : List (Option ℕ)) (sets : LiveView) (q w : ℕ) → TriesPositive r → IsPath r path
    → ShowsLive r.model r.lists path sets → q < length r.model.params → w < length (param_at r.model.params q).values → is_assigned path q ≡ false
    → TellsOf r.model path sets q w
live_tells r path sets q w tries on shows within exists free = record {
  dead = unmarked_value r path sets q w tries on shows within exists free;
  positive = λ marked. (marked_value r path sets q w tries on shows within exists free marked).positive;
  unbroken = λ marked. (marked_value r path sets q w tries on shows within exists free marked).unbroken;
}

-- where they show that the node fails, and the parameter has no mark
pub stuck_tells : (r : RefuterView) (path : List (Option ℕ)) (sets : LiveView) (q w : ℕ) → TriesPositive r → IsPath r path
    → ShowsFailure r.model r.lists path sets → q < length r.model.params → w < length (param_at r.model.params q).values → is_assigned path q ≡ false
    → count_by (λ mark. mark) (get_or sets.live q []) ≡ 0 → TellsOf r.model path sets q w
stuck_tells r path sets q w tries on shows within exists free none = record {
  dead = λ unmarked positive. unmarked_dead r path sets q w tries on shows within exists free none positive;
  positive = λ marked. absurd (false≢true (sym (count_none (get_or sets.live q []) w none) ∙ marked));
  unbroken = λ marked. absurd (false≢true (sym (count_none (get_or sets.live q []) w none) ∙ marked));
}

pub some_by : {X : Type 0} (o : Option X) → (o ≡ None → ⊥) → IsSome o
some_by None away = absurd (away refl)
some_by (Some x) away = refl
