-- What is wrong or odd about a model. (This project's rule.)
use Rattle.std.specs.Prelude.{ℕ, suc, Bool, ◌&&◌, List, [], ◌∷◌, ◌++◌, map, if◌then◌else◌}
use Rattle.std.specs.List.{flat_map}
use Rattle.cov_model.specs.declared.constraint.Literal.{Literal}
use Rattle.cov_model.specs.declared.constraint.Term as terms
use Rattle.cov_model.specs.declared.constraint.Term.TheVariants.{OneOf}
use Rattle.cov_model.specs.believed.Sound.{ModelView}
use Rattle.cov_model.specs.believed.Views.{RuleView}
use Rattle.model_lint.specs.believed.Constraints.{never_applies, never_excludes}
use Rattle.model_lint.specs.believed.Tests.{has_test, no_values, unused_values}
use Rattle.model_findings.specs.believed.Comparisons.{is_constant, is_unknown, is_unknown_element}
use Rattle.model_findings.specs.believed.Terms.{terms_of}

-- what a finding says: values are pairs (parameter, value), constraints are named by their numbers, the terms of a
-- constraint and the elements of a list by their places
pub data Fact : Type 0 where
  NoTest : Fact
  ValueInNoTest : ℕ × ℕ → Fact
  UnknownValue : ℕ → ℕ → Fact
  UnknownElement : ℕ → ℕ → ℕ → Fact
  ConstantComparison : ℕ → ℕ → Fact
  NeverExcludes : ℕ → Fact
  PremiseNeverHolds : ℕ → Fact

-- what is told of each item of a list, given its place
abbrev pub told_from : {X : Type 0} → (ℕ → X → List Fact) → ℕ → List X → List Fact
told_from told i [] = []
told_from told i (x ∷ xs) = told i x ++ told_from told (suc i) xs

-- a fact, where it is one
abbrev pub fact_if : Bool → Fact → List Fact
fact_if is fact = if is then fact ∷ [] else []

-- what is so of values: there is no test, or these values are in none
abbrev pub value_facts : ModelView → List Fact
value_facts m = if has_test m (no_values m) then map ValueInNoTest (unused_values m) else NoTest ∷ []

-- of an element of an IN list, and of the term at a place of a constraint: that no value of the parameter is what it is
-- compared with
abbrev pub element_facts : ModelView → ℕ → ℕ → ℕ → ℕ → Literal → List Fact
element_facts m number place p i literal = fact_if (is_unknown_element m p literal) (UnknownElement number place i)

abbrev pub unknown_facts : ModelView → ℕ → ℕ → terms.Term → List Fact
unknown_facts m number place (OneOf p literals) = told_from (element_facts m number place p) 0 literals
unknown_facts m number place term = fact_if (is_unknown m term) (UnknownValue number place)

-- that the term is the same for every value otherwise
abbrev pub constant_facts : ModelView → ℕ → ℕ → terms.Term → List Fact
constant_facts m number place term = fact_if (is_constant m term) (ConstantComparison number place)

-- of the terms of a constraint
abbrev pub term_facts : ModelView → RuleView → List Fact
term_facts m rule = told_from (unknown_facts m rule.number) 0 (terms_of rule.body) ++ told_from (constant_facts m rule.number) 0 (terms_of rule.body)

-- of a constraint; whether it never excludes is told only where all is asked for
abbrev pub rule_facts : ModelView → Bool → RuleView → List Fact
rule_facts m all rule =
    (term_facts m rule ++ fact_if (all && never_excludes m rule) (NeverExcludes rule.number))
    ++ fact_if (never_applies m rule) (PremiseNeverHolds rule.number)

-- and of the model: first the values in order of declaration, then the constraints in order
abbrev pub facts : ModelView → Bool → List Fact
facts m all = value_facts m ++ flat_map (rule_facts m all) m.rules
