-- What constraints mean on a row: they hold or don't. (PICT's guide.) Only the first name of a value counts.
use Rattle.std.specs.Prelude.{ℕ, ℤ, pos, Bool, true, false, ◌&&◌, ◌||◌, not, List, [], Option, slice_index_or, if◌then◌else◌}
use Rattle.std.specs.Ordering.{int_cmp, is_eq, is_lt, is_gt, is_le, is_ge, is_ne}
use Rattle.std.specs.declared.cmp.Ordering.{Ordering}
use Rattle.std.specs.declared.cmp.Ordering.TheVariants.{Less}
use Rattle.std.specs.List.{list_any}
use Rattle.value_text.specs.declared.fixed.FixedAnswer.{FixedAnswer}
use Rattle.value_text.specs.declared.fixed.FixedAnswer.TheVariants as answers
use Rattle.value_text.specs.believed.Texts.{text_order}
use Rattle.value_text.specs.believed.Numbers.{number_of}
use Rattle.value_text.specs.believed.Like.{is_like}
use Rattle.cov_model.specs.declared.parameter.Value.{Value}
use Rattle.cov_model.specs.declared.constraint.Rel.{Rel}
use Rattle.cov_model.specs.declared.constraint.Rel.TheVariants.{Eq, Ne, Gt, Ge, Lt, Le}
use Rattle.cov_model.specs.declared.constraint.Literal.{Literal}
use Rattle.cov_model.specs.declared.constraint.Literal.TheVariants.{Number, Words}
use Rattle.cov_model.specs.declared.constraint.Term as terms
use Rattle.cov_model.specs.declared.constraint.Term.TheVariants.{ValueIs, ParamIs, OneOf, Like, Negative, Positive}
use Rattle.cov_model.specs.believed.Views.{PredView, PredViews, Leaf, Negated, Each, Either, End, More, BodyView, Plain, IfThen, IfElse}
use Rattle.cov_model.specs.believed.Sound.{ModelView, first_name, param_at}
use Rattle.cov_model.specs.believed.Rows.{value_in}

abbrev pub no_value : Value
no_value = record { names = []; weight = 0; negative = false }

-- the value of a number of a parameter
abbrev pub value_at : ModelView → ℕ → ℕ → Value
value_at m p v = slice_index_or (param_at m.params p).values v no_value

-- the value that a row gives a parameter
abbrev pub given_value : ModelView → List (Option ℕ) → ℕ → Value
given_value m row p = value_at m p (value_in row p)

-- the number that a name spells
abbrev pub number_in : FixedAnswer → ℤ
number_in (answers.Number n) = n
number_in answers.NotNumber = pos 0
number_in answers.TooWide = pos 0

-- what constraints compare of a value's first name: the number that it spells if its parameter is
-- numeric, else the name
abbrev pub operand_of : Bool → List ℕ → Literal
operand_of numeric name = if numeric then Number (number_in (number_of name)) else Words name

-- what constraints compare of a parameter's value
abbrev pub operand : ModelView → List (Option ℕ) → ℕ → Literal
operand m row p = operand_of (param_at m.params p).numeric (first_name (given_value m row p))

-- numbers are compared as numbers, texts under the case rule; the two never meet in a sound model
abbrev pub literal_order : Bool → Literal → Literal → Ordering
literal_order fold (Number a) (Number b) = int_cmp a b
literal_order fold (Words a) (Words b) = text_order fold a b
literal_order fold (Number a) (Words b) = Less
literal_order fold (Words a) (Number b) = Less

-- whether two operands in this order stand in the relation
abbrev pub stands_in : Rel → Ordering → Bool
stands_in Eq order = is_eq order
stands_in Ne order = is_ne order
stands_in Gt order = is_gt order
stands_in Ge order = is_ge order
stands_in Lt order = is_lt order
stands_in Le order = is_le order

-- whether a term holds on a row
abbrev pub term_holds : ModelView → terms.Term → List (Option ℕ) → Bool
term_holds m (ValueIs p rel literal) row = stands_in rel (literal_order m.fold (operand m row p) literal)
term_holds m (ParamIs p rel q) row = stands_in rel (literal_order m.fold (operand m row p) (operand m row q))
term_holds m (OneOf p literals) row = list_any (λ literal. is_eq (literal_order m.fold (operand m row p) literal)) literals
term_holds m (Like p pattern) row = is_like m.fold pattern (first_name (given_value m row p))
term_holds m (Negative p) row = (given_value m row p).negative
term_holds m (Positive p) row = not (given_value m row p).negative

-- whether a predicate holds on a row
abbrev mutual
  pub pred_holds : ModelView → PredView → List (Option ℕ) → Bool
  pred_holds m (Leaf term) row = term_holds m term row
  pred_holds m (Negated inner) row = not (pred_holds m inner row)
  pred_holds m (Each parts) row = all_hold m parts row
  pred_holds m (Either parts) row = any_holds m parts row

  pub all_hold : ModelView → PredViews → List (Option ℕ) → Bool
  all_hold m End row = true
  all_hold m (More part rest) row = pred_holds m part row && all_hold m rest row

  pub any_holds : ModelView → PredViews → List (Option ℕ) → Bool
  any_holds m End row = false
  any_holds m (More part rest) row = pred_holds m part row || any_holds m rest row

-- whether a constraint holds on a row
abbrev pub body_holds : ModelView → BodyView → List (Option ℕ) → Bool
body_holds m (Plain pred) row = pred_holds m pred row
body_holds m (IfThen premise pred) row = not (pred_holds m premise row) || pred_holds m pred row
body_holds m (IfElse premise pred other) row =
    (not (pred_holds m premise row) || pred_holds m pred row) && (pred_holds m premise row || pred_holds m other row)
