-- Questions that are asked of seed rows.
use Rattle.std.specs.Prelude.{◌≡◌, ℕ, List}
use Rattle.cov_model.specs.believed.Sound.{ModelView}
use Rattle.definitions.specs.declared.effort.Effort.{Effort}
use Rattle.ipog_grow.specs.declared.seeds.SeedQuestions.{SeedQuestions}

-- they are about their slice of the model, with these preferences and what a question may cost
abbrev pub AreQuestionsFor : ModelView → List (List ℕ) → Effort → SeedQuestions → Type 0
AreQuestionsFor m pref effort one = one.questions ≡ record { model = m; prefs = pref; slice = one.slice; effort = effort }
