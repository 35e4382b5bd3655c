-- What constraints of a file in the form of ACTS mean on a row: they hold or don't. (The ACTS guide; the case rule
-- is that of PICT's guide.)
use Rattle.std.specs.Prelude.{ℕ, ℤ, pos, neg_ℤ, Bool, true, false, ◌&&◌, ◌||◌, not, List, [], Option, slice_index_or, unwrap_or, position, if◌then◌else◌}
use Rattle.std.specs.Ordering.{int_cmp}
use Rattle.std.specs.Str.Parse.{digits_value}
use Rattle.value_text.specs.believed.Texts.{is_same_text}
use Rattle.cov_model.specs.declared.constraint.Rel.{Rel}
use Rattle.cov_model.specs.declared.constraint.Rel.TheVariants.{Eq, Ne}
use Rattle.cov_model.specs.believed.Meaning.{stands_in}
use Rattle.cov_model.specs.believed.Rows.{value_in}
use Rattle.model_parse.specs.believed.Pieces.{begins_with}
use Rattle.acts_front.specs.believed.ParameterLines.{Parameter, is_true, without_minus}
use Rattle.acts_front.specs.believed.Constraints.{Operand, OfWhole, OfText, OfTruth, OfParameter, Pred, Preds, Compares, Negated, Each, Either, End, More, Constraint, Plain, Implies}
use Rattle.acts_front.specs.declared.kind.Kind.{Kind}
use Rattle.acts_front.specs.declared.kind.Kind.TheVariants.{Int, Enum, Boolean}

-- what is compared: a whole number, a text or a truth value
pub data Content : Type 0 where
  IsInteger : ℤ → Content
  IsText : List ℕ → Content
  IsTruth : Bool → Content

-- the whole number that a text spells
abbrev pub whole_of : List ℕ → ℤ
whole_of text =
    if begins_with 45 text then neg_ℤ (pos (digits_value 10 (without_minus text))) else pos (digits_value 10 (without_minus text))

-- what a value of a type is
abbrev pub content_of : Kind → List ℕ → Content
content_of Int value = IsInteger (whole_of value)
content_of Enum value = IsText value
content_of Boolean value = IsTruth (is_true value)

-- an equality and its opposite; an order stands between whole numbers alone
abbrev pub is_as : Rel → Bool → Bool
is_as Eq same = same
is_as Ne same = not same
is_as rel same = false

abbrev pub is_same_truth : Bool → Bool → Bool
is_same_truth true b = b
is_same_truth false b = not b

-- whole numbers are compared as such, texts under the case rule; two types never meet where types are checked
abbrev pub compare : Bool → Rel → Content → Content → Bool
compare fold rel (IsInteger a) (IsInteger b) = stands_in rel (int_cmp a b)
compare fold rel (IsText a) (IsText b) = is_as rel (is_same_text fold a b)
compare fold rel (IsTruth a) (IsTruth b) = is_as rel (is_same_truth a b)
compare fold rel a b = false

abbrev pub no_parameter : Parameter
no_parameter = record { name = []; kind = Enum; values = [] }

-- what a row gives the parameter of a number, and that of a name
abbrev pub content_at : List Parameter → List (Option ℕ) → ℕ → Content
content_at params row p =
    content_of (slice_index_or params p no_parameter).kind (slice_index_or (slice_index_or params p no_parameter).values (value_in row p) [])

abbrev pub number_named : Bool → List Parameter → List ℕ → ℕ
number_named fold params name = unwrap_or (position (λ param. is_same_text fold name param.name) params) 0

abbrev pub given_content : Bool → List Parameter → List (Option ℕ) → List ℕ → Content
given_content fold params row name = content_at params row (number_named fold params name)

-- what a parameter is compared with
abbrev pub operand_content : Bool → List Parameter → List (Option ℕ) → Operand → Content
operand_content fold params row (OfWhole text) = IsInteger (whole_of text)
operand_content fold params row (OfText text) = IsText text
operand_content fold params row (OfTruth truth) = IsTruth truth
operand_content fold params row (OfParameter name) = given_content fold params row name

-- whether a predicate holds on a row
abbrev mutual
  pub pred_holds : Bool → List Parameter → List (Option ℕ) → Pred → Bool
  pred_holds fold params row (Compares name rel operand) = compare fold rel (given_content fold params row name) (operand_content fold params row operand)
  pred_holds fold params row (Negated pred) = not (pred_holds fold params row pred)
  pred_holds fold params row (Each preds) = all_hold fold params row preds
  pred_holds fold params row (Either preds) = any_holds fold params row preds

  pub all_hold : Bool → List Parameter → List (Option ℕ) → Preds → Bool
  all_hold fold params row End = true
  all_hold fold params row (More pred preds) = pred_holds fold params row pred && all_hold fold params row preds

  pub any_holds : Bool → List Parameter → List (Option ℕ) → Preds → Bool
  any_holds fold params row End = false
  any_holds fold params row (More pred preds) = pred_holds fold params row pred || any_holds fold params row preds

-- whether a constraint holds on a row
abbrev pub constraint_holds : Bool → List Parameter → List (Option ℕ) → Constraint → Bool
constraint_holds fold params row (Plain pred) = pred_holds fold params row pred
constraint_holds fold params row (Implies premise pred) = not (pred_holds fold params row premise) || pred_holds fold params row pred
