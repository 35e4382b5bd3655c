-- What is known of compiled constraints. A truth is read from a table, by the place at which those of its
-- term begin, or told from the model. (This project's rule.)
use Rattle.std.specs.Prelude.{◌≡◌, ℕ, ◌+◌, ◌*◌, ◌<◌, Bool, true, false, ◌&&◌, List, [], ◌∷◌, ◌++◌, map, length, Option, Some, None, slice_index_or, slice_set, if◌then◌else◌, All}
use Rattle.cov_model.specs.declared.truth.Truth.{Truth}
use Rattle.cov_model.specs.declared.truth.Truth.TheVariants.{Yes, No, Unknown}
use Rattle.cov_model.specs.declared.constraint.Pred.{Pred}
use Rattle.cov_model.specs.declared.constraint.Term.{Term}
use Rattle.cov_model.specs.declared.constraint.Term.TheVariants.{ParamIs}
use Rattle.cov_model.specs.declared.parameter.Param.{Param}
use Rattle.cov_model.specs.believed.Views.{PredView, BodyView}
use Rattle.cov_model.specs.Views.{pred_view}
use Rattle.std.specs.List.{range_with_len}
use Rattle.cov_model.specs.believed.Sound.{ModelView, param_at}
use Rattle.cov_model.specs.Sound.{rule_at}
use Rattle.cov_model.specs.Fits.{FitsModel}
use Rattle.cov_model.specs.believed.Rows.{is_assigned, value_in}
use Rattle.cov_model.specs.believed.Kleene.{known, not_of, and_of, or_of, term_truth, pred_truth, body_truth}
use Rattle.compiled_rules.specs.declared.code.Code.{Code, OneParameter, TwoParameters, Comparison, Not', All', Any', Row_of-Code, end_of-Code, more_of-Code}
use Rattle.compiled_rules.specs.declared.code.BodyCode.{BodyCode}
use Rattle.compiled_rules.specs.declared.code.BodyCode.TheVariants.{Plain, IfThen, IfElse}
use Rattle.compiled_rules.specs.SoundCodes.{IsSoundCode, IsSoundBodyCode}

abbrev pub is_yes : Truth → Bool
is_yes Yes = true
is_yes No = false
is_yes Unknown = false

-- a term of one parameter
abbrev pub one_truth : List Bool → ℕ → ℕ → List (Option ℕ) → Truth
one_truth table p start cells = if is_assigned cells p then known (slice_index_or table (start + value_in cells p) false) else Unknown

-- a term of two parameters
abbrev pub two_truth : List Bool → ℕ → ℕ → ℕ → ℕ → List (Option ℕ) → Truth
two_truth table p q start width cells =
    if is_assigned cells p && is_assigned cells q then known (slice_index_or table (start + value_in cells p * width + value_in cells q) false) else Unknown

-- a predicate; a comparison that isn't in the table is told from the model
abbrev mutual
  pub code_truth : ModelView → List Bool → Code → List (Option ℕ) → Truth
  code_truth m table (OneParameter p start) cells = one_truth table p start cells
  code_truth m table (TwoParameters p q start width) cells = two_truth table p q start width cells
  code_truth m table (Comparison p relation q) cells = term_truth m (ParamIs p relation q) cells
  code_truth m table (Not' pointer inner) cells = not_of (code_truth m table inner cells)
  code_truth m table (All' n parts) cells = all_rows m table parts cells
  code_truth m table (Any' n parts) cells = any_rows m table parts cells

  pub all_rows : {n : _} → ModelView → List Bool → Row_of-Code n → List (Option ℕ) → Truth
  all_rows m table end_of-Code cells = Yes
  all_rows m table (more_of-Code part rest) cells = and_of (code_truth m table part cells) (all_rows m table rest cells)

  pub any_rows : {n : _} → ModelView → List Bool → Row_of-Code n → List (Option ℕ) → Truth
  any_rows m table end_of-Code cells = No
  any_rows m table (more_of-Code part rest) cells = or_of (code_truth m table part cells) (any_rows m table rest cells)

-- lists of predicates
abbrev pub all_codes : ModelView → List Bool → List Code → List (Option ℕ) → Truth
all_codes m table [] cells = Yes
all_codes m table (part ∷ parts) cells = and_of (code_truth m table part cells) (all_codes m table parts cells)

abbrev pub any_codes : ModelView → List Bool → List Code → List (Option ℕ) → Truth
any_codes m table [] cells = No
any_codes m table (part ∷ parts) cells = or_of (code_truth m table part cells) (any_codes m table parts cells)

-- a constraint
abbrev pub body_code_truth : ModelView → List Bool → BodyCode → List (Option ℕ) → Truth
body_code_truth m table (Plain code) cells = code_truth m table code cells
body_code_truth m table (IfThen premise code) cells = or_of (not_of (code_truth m table premise cells)) (code_truth m table code cells)
body_code_truth m table (IfElse premise code other) cells =
    and_of (or_of (not_of (code_truth m table premise cells)) (code_truth m table code cells))
    (or_of (code_truth m table premise cells) (code_truth m table other cells))

-- the longer table begins with the other
abbrev pub Extends : List Bool → List Bool → Type 0
Extends longer table = (more : List Bool) × (longer ≡ table ++ more)

-- the code is sound, and over this table and each longer one the same is known of it as of the predicate
pub record IsCodeOf (m : ModelView) (table : List Bool) (pred : PredView) (code : Code) : Type 0 where
  pub sound : IsSoundCode m.params code
  pub same : (longer : List Bool) (cells : List (Option ℕ)) → Extends longer table → FitsModel m cells
      → code_truth m longer code cells ≡ pred_truth m pred cells

-- the same of each of a list
pub record AreCodesOf (m : ModelView) (table : List Bool) (preds : List Pred) (codes : List Code) : Type 0 where
  pub sound : All (IsSoundCode m.params) codes
  pub same : (longer : List Bool) (cells : List (Option ℕ)) → Extends longer table → FitsModel m cells
      → map (λ code. code_truth m longer code cells) codes ≡ map (λ pred. pred_truth m (pred_view pred) cells) preds

-- the same of a constraint
pub record IsBodyCodeOf (m : ModelView) (table : List Bool) (body : BodyView) (code : BodyCode) : Type 0 where
  pub sound : IsSoundBodyCode m.params code
  pub same : (longer : List Bool) (cells : List (Option ℕ)) → Extends longer table → FitsModel m cells
      → body_code_truth m longer code cells ≡ body_truth m body cells

-- what holds of a term on the cells with each value of a parameter
abbrev pub truths_over : ModelView → Term → List (Option ℕ) → ℕ → List Bool
truths_over m term cells q = map (λ w. is_yes (term_truth m term (slice_set cells q (Some w)))) (range_with_len 0 (length (param_at m.params q).values))

-- what holds of a term of two parameters, for so many values of the first with each of the second
pub record PairTruths (m : ModelView) (term : Term) (p q n : ℕ) (truths : List Bool) : Type 0 where
  pub as_many : length truths ≡ n * length (param_at m.params q).values
  pub are : (v w : ℕ) (cells : List (Option ℕ)) → v < n → w < length (param_at m.params q).values → slice_index_or cells p None ≡ Some v
      → slice_index_or cells q None ≡ Some w
      → known (slice_index_or truths (v * length (param_at m.params q).values + w) false) ≡ term_truth m term cells

-- over each model and table the same is known of the code as of the negation of the other
pub record IsNegation (negation code : Code) : Type 0 where
  pub sound : (params : List Param) → IsSoundCode params code → IsSoundCode params negation
  pub same : (m : ModelView) (table : List Bool) (cells : List (Option ℕ)) → code_truth m table negation cells ≡ not_of (code_truth m table code cells)

-- over this table the codes of the first constraints
pub record AreBodyCodes (m : ModelView) (table : List Bool) (n : ℕ) (codes : List BodyCode) : Type 0 where
  pub as_many : length codes ≡ n
  pub are : (i : ℕ) (d : BodyCode) → i < n → IsBodyCodeOf m table (rule_at m (i + 1)).body (slice_index_or codes i d)
