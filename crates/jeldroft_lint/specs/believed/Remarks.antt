-- What is told of a model: a remark for each of its facts, and hints. (This project's rule.)
use Rattle.std.specs.Prelude.{◌≡◌, ℕ, ◌+◌, ◌*◌, Bool, true, List, [], ◌∷◌, ◌++◌, map, All, Option, Some, None, IsPermutation}
use Rattle.std.specs.List.{AllZip}
use Rattle.std.specs.List.Sorted.{IsSortedByKey, IsStableByKey}
use Rattle.std.specs.Ordering.{nat_cmp}
use Rattle.cov_model.specs.declared.slice.Slice.TheVariants.{Positive}
use Rattle.cov_model.specs.believed.Meaning.{value_at}
use Rattle.cov_model.specs.believed.Sound.{ModelView, first_name, param_at}
use Rattle.model_lint.specs.believed.Tests.{IsConflict, no_values, slice_with, value_alone}
use Rattle.model_findings.specs.believed.Findings.{Fact, NoTest, ValueInNoTest, UnknownValue, UnknownElement, ConstantComparison, NeverExcludes, PremiseNeverHolds, facts}
use Rattle.finding_words.specs.believed.Lines.{rule_line}
use Rattle.jeldroft_lint.specs.declared.kind.Kind.{Kind}
use Rattle.jeldroft_lint.specs.declared.kind.Kind.TheVariants as kinds
use Rattle.jeldroft_lint.specs.declared.remark.Remark.{Remark}
use Rattle.jeldroft_lint.specs.believed.Kinds.{is_hint, rank_of}

-- what a remark is about: its kind, its line, or 0 where it has none, and the parameter and the value that are in no test
pub record Gist : Type 0 where
  pub kind : Kind
  pub line : ℕ
  pub parameter : Option (List ℕ)
  pub value : Option (List ℕ)

abbrev pub gist_of : Remark → Gist
gist_of remark = record { kind = remark.kind; line = remark.line; parameter = remark.parameter; value = remark.value }

abbrev pub about_rule : ModelView → Kind → ℕ → Gist
about_rule m kind number = record { kind = kind; line = rule_line m number; parameter = None; value = None }

abbrev pub about_value : ModelView → ℕ × ℕ → Gist
about_value m value = record {
  kind = kinds.ValueInNoTest;
  line = (param_at m.params value.0).line;
  parameter = Some (param_at m.params value.0).name;
  value = Some (first_name (value_at m value.0 value.1));
}

-- what is told of a fact
abbrev pub fact_gist : ModelView → Fact → Gist
fact_gist m NoTest = record { kind = kinds.NoTest; line = 0; parameter = None; value = None }
fact_gist m (ValueInNoTest value) = about_value m value
fact_gist m (UnknownValue number term) = about_rule m kinds.UnknownValue number
fact_gist m (UnknownElement number term element) = about_rule m kinds.UnknownValue number
fact_gist m (ConstantComparison number term) = about_rule m kinds.ConstantComparison number
fact_gist m (NeverExcludes number) = about_rule m kinds.NeverExcludes number
fact_gist m (PremiseNeverHolds number) = about_rule m kinds.PremiseNeverHolds number

-- the constraints that come with a fact: those that no row of valid values, or none of its slice with the value, meets
-- together, of which none can be left out; or the one that it is about
abbrev pub Explains : ModelView → Fact → Remark → Type 0
Explains m NoTest remark = IsConflict m Positive (no_values m) remark.constraints
Explains m (ValueInNoTest value) remark = IsConflict m (slice_with m value) (value_alone m value) remark.constraints
Explains m (UnknownValue number term) remark = remark.constraints ≡ number ∷ []
Explains m (UnknownElement number term element) remark = remark.constraints ≡ number ∷ []
Explains m (ConstantComparison number term) remark = remark.constraints ≡ number ∷ []
Explains m (NeverExcludes number) remark = remark.constraints ≡ number ∷ []
Explains m (PremiseNeverHolds number) remark = remark.constraints ≡ number ∷ []

-- the place of a remark: by its line, then by its kind, of which there are less than 16
abbrev pub place_of : Remark → ℕ
place_of remark = remark.line * 16 + rank_of remark.kind

-- the same remarks in order, those of one place as they were
pub record IsInOrder (given told : List Remark) : Type 0 where
  pub each : IsPermutation given told
  pub rising : IsSortedByKey place_of nat_cmp told
  pub stable : IsStableByKey place_of nat_cmp given told

-- what is told of a model, those constraints included that never exclude where all is asked for: a remark for each of its
-- facts, with its constraints, and hints
pub record Tells (m : ModelView) (all : Bool) (told : List Remark) : Type 0 where
  pub found : List Remark
  pub hints : List Remark
  pub findings : map gist_of found ≡ map (fact_gist m) (facts m all)
  pub explained : AllZip (Explains m) (facts m all) found
  pub are_hints : All (λ remark. is_hint remark.kind ≡ true) hints
  pub order : IsInOrder (found ++ hints) told
