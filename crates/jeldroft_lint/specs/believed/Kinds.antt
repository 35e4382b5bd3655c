-- The kinds of what is told of a model. (This project's rules.)
use Rattle.std.specs.Prelude.{ℕ, Bool, true, false, List, codes}
use Rattle.jeldroft_lint.specs.declared.kind.Kind.{Kind}
use Rattle.jeldroft_lint.specs.declared.kind.Kind.TheVariants.{NoTest, ValueInNoTest, UnknownValue, ConstantComparison, NeverExcludes, PremiseNeverHolds, ConstraintOnInvalid, SameValueTwice, LooksLikeConstraint, LooksLikeWeight, SingleValue, UnusedAlias}

abbrev pub kind_name : Kind → List ℕ
kind_name NoTest = codes "no-test"
kind_name ValueInNoTest = codes "value-in-no-test"
kind_name UnknownValue = codes "unknown-value"
kind_name ConstantComparison = codes "constant-comparison"
kind_name NeverExcludes = codes "never-excludes"
kind_name PremiseNeverHolds = codes "premise-never-holds"
kind_name ConstraintOnInvalid = codes "constraint-on-invalid"
kind_name SameValueTwice = codes "same-value-twice"
kind_name LooksLikeConstraint = codes "looks-like-constraint"
kind_name LooksLikeWeight = codes "looks-like-weight"
kind_name SingleValue = codes "single-value"
kind_name UnusedAlias = codes "unused-alias-in-constraint"

-- the order of the kinds
abbrev pub rank_of : Kind → ℕ
rank_of NoTest = 0
rank_of ValueInNoTest = 1
rank_of UnknownValue = 2
rank_of ConstantComparison = 3
rank_of NeverExcludes = 4
rank_of PremiseNeverHolds = 5
rank_of ConstraintOnInvalid = 6
rank_of SameValueTwice = 7
rank_of LooksLikeConstraint = 8
rank_of LooksLikeWeight = 9
rank_of SingleValue = 10
rank_of UnusedAlias = 11

-- the last six are hints
abbrev pub is_hint : Kind → Bool
is_hint NoTest = false
is_hint ValueInNoTest = false
is_hint UnknownValue = false
is_hint ConstantComparison = false
is_hint NeverExcludes = false
is_hint PremiseNeverHolds = false
is_hint kind = true
