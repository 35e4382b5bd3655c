-- Which values are in a test, and which constraints no row with a value can meet together. (PICT's guide for tests; Liffiton
-- and Sakallah 2008 for minimal sets of constraints that can't be met together; that both are told is this project's rule.)
use Rattle.std.specs.Prelude.{◌≡◌, ℕ, Bool, true, false, ◌&&◌, not, List, map, length, Option, None, replicate, ◌==◌, All, if◌then◌else◌}
use Rattle.std.specs.List.{filter, flat_map, list_any}
use Rattle.cov_model.specs.declared.slice.Slice.{Slice}
use Rattle.cov_model.specs.declared.slice.Slice.TheVariants.{Positive, Negative}
use Rattle.cov_model.specs.believed.Meaning.{value_at}
use Rattle.cov_model.specs.believed.Sound.{ModelView}
use Rattle.cov_model.specs.believed.Rows.{contains, with_value}
use Rattle.cov_model.specs.believed.Valid.{is_valid, param_numbers}
use Rattle.cov_model.specs.believed.Slices.{value_numbers}
use Rattle.definitions.specs.believed.Completion.{is_extendable}
use Rattle.definitions.specs.believed.Demand.{is_among}
use Rattle.definitions.specs.believed.Figures.{all_rows}

-- a test contains the partial row: a valid row of the model does
abbrev pub has_test : ModelView → List (Option ℕ) → Bool
has_test m cells = list_any (λ row. is_valid m row && contains row cells) (all_rows m)

-- the partial row without a value, and the one that gives one parameter a value
abbrev pub no_values : ModelView → List (Option ℕ)
no_values m = replicate (length m.params) None

abbrev pub value_alone : ModelView → ℕ × ℕ → List (Option ℕ)
value_alone m value = with_value (no_values m) value.0 value.1

-- the values of a parameter, as pairs (parameter, value), in order of declaration
abbrev pub values_of : ModelView → ℕ → List (ℕ × ℕ)
values_of m p = map (λ v. (p, v)) (value_numbers m p)

-- no test has the value
abbrev pub is_unused : ModelView → ℕ × ℕ → Bool
is_unused m value = not (has_test m (value_alone m value))

abbrev pub unused_values : ModelView → List (ℕ × ℕ)
unused_values m = filter (is_unused m) (flat_map (values_of m) (param_numbers m))

-- the model with those of its constraints alone whose numbers are kept
abbrev pub part : ModelView → (ℕ → Bool) → ModelView
part m keeps = record { params = m.params; rules = filter (λ rule. keeps rule.number) m.rules; demand = m.demand; prefix = m.prefix; fold = m.fold }

-- the slice of a value: its own of a negative one, else that of the rows without negative values
abbrev pub slice_with : ModelView → ℕ × ℕ → Slice
slice_with m value = if (value_at m value.0 value.1).negative then Negative value.0 value.1 else Positive

-- the numbers of the constraints
abbrev pub rule_numbers : ModelView → List ℕ
rule_numbers m = map (λ rule. rule.number) m.rules

-- constraints that can't be met together by a row of the slice that contains the partial row, and of which none can be
-- left out: no such row meets them all, and without any one of them some such row meets the others
pub record IsConflict (m : ModelView) (slice : Slice) (cells : List (Option ℕ)) (numbers : List ℕ) : Type 0 where
  pub rising : numbers ≡ filter (is_among numbers) (rule_numbers m)
  pub enough : is_extendable (part m (is_among numbers)) slice cells ≡ false
  pub needed : All (λ k. is_extendable (part m (λ n. is_among numbers n && not (n == k))) slice cells ≡ true) numbers
