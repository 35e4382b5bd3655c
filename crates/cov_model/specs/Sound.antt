-- The model that contracts see, and when it is sound.
use Rattle.std.specs.Prelude.{ℕ, ◌-◌, slice_index_or}
use Rattle.cov_model.specs.declared.constraint.Term.TheVariants.{Negative}
use Rattle.cov_model.specs.believed.Views.{Leaf, Plain, RuleView}
use Rattle.cov_model.specs.believed.Sound.{ModelView}

abbrev pub no_rule : RuleView
no_rule = record { number = 0; line = 0; body = Plain (Leaf (Negative 0)) }

-- the constraint of a number
abbrev pub rule_at : ModelView → ℕ → RuleView
rule_at m n = slice_index_or m.rules (n - 1) no_rule
