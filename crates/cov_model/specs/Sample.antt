-- The model of the tests: A is numeric with 1, 2.50 and ~-3, and B has red|rot and ~Green.
use Rattle.std.specs.Prelude.{◌≡◌, ℕ, ◌+◌, ◌<◌, true, false, List, [], ◌∷◌, length, slice_index_or, codes, All}
use Rattle.cov_model.specs.declared.parameter.Param.{Param}
use Rattle.cov_model.specs.declared.parameter.Value.{Value}
use Rattle.cov_model.specs.believed.Views.{RuleView}
use Rattle.cov_model.specs.believed.Sound.{ModelView, IsSoundBody}

abbrev pub sample_numbers : List Value
sample_numbers =
    record { names = codes "1" ∷ []; weight = 1; negative = false }
    ∷ record { names = codes "2.50" ∷ []; weight = 1; negative = false }
    ∷ record { names = codes "-3" ∷ []; weight = 1; negative = true } ∷ []

abbrev pub sample_texts : List Value
sample_texts =
    record { names = codes "red" ∷ codes "rot" ∷ []; weight = 1; negative = false }
    ∷ record { names = codes "Green" ∷ []; weight = 1; negative = true } ∷ []

abbrev pub sample_params : List Param
sample_params =
    record { name = codes "A"; line = 1; numeric = true; values = sample_numbers }
    ∷ record { name = codes "B"; line = 2; numeric = false; values = sample_texts } ∷ []

-- constraints over these parameters, numbered from 1
pub record AreSampleRules (rules : List RuleView) : Type 0 where
  pub numbered : (i : ℕ) (d : RuleView) → i < length rules → (slice_index_or rules i d).number ≡ i + 1
  pub sound : All (λ rule. IsSoundBody sample_params rule.body) rules

-- the model with these constraints
abbrev pub sample_model : List RuleView → ModelView
sample_model rules = record {
  params = sample_params;
  rules = rules;
  demand = record { order = 1; subs = []; relations = [] };
  prefix = 126;
  fold = true;
}
