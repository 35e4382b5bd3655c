-- Which model of `pict` says what a file in the form of ACTS says, and that the translation of the file spells no
-- other. (PICT's guide; the ACTS guide; that these say the same is this project's rule.)
use Rattle.std.specs.Prelude.{◌≡◌, ℕ, Bool, true, false, List, [], ◌∷◌, map, length, Option, Ok, Err}
use Rattle.std.specs.Str.Parse.{digits_value}
use Rattle.cov_model.specs.declared.demand.Group.{Group}
use Rattle.cov_model.specs.declared.parameter.Param.{Param}
use Rattle.cov_model.specs.declared.parameter.Value.{Value}
use Rattle.cov_model.specs.believed.Meaning.{body_holds}
use Rattle.cov_model.specs.believed.Sound.{ModelView}
use Rattle.cov_model.specs.believed.Valid.{is_row}
use Rattle.cov_model.specs.believed.Views.{RuleView}
use Rattle.model_lex.specs.declared.diag.DiagCode.TheVariants.{OrderTooLarge}
use Rattle.model_lex.specs.declared.fault.ModelFault.TheVariants.{Bad, BadRule, Limit, NoMemory}
use Rattle.model_lex.specs.declared.options.ModelOpts.{ModelOpts}
use Rattle.model_lex.specs.declared.options.OrderWord.{OrderWord}
use Rattle.model_parse.specs.believed.RawModels.{order_in}
use Rattle.type_check.specs.believed.ModelOf.{Answer, IsAnswerOf}
use Rattle.acts_front.specs.believed.ActsFiles.{Line, acts, constraints_of, parameters_of, relations_of}
use Rattle.acts_front.specs.believed.Constraints.{Constraint}
use Rattle.acts_front.specs.believed.Meaning.{constraint_holds, number_named}
use Rattle.acts_front.specs.believed.ParameterLines.{Parameter}
use Rattle.acts_front.specs.believed.RelationLines.{Relation}
use Rattle.acts_front.specs.believed.Translation.{value_text}
use Rattle.acts_front.specs.declared.kind.Kind.{Kind}
use Rattle.acts_front.specs.declared.kind.Kind.TheVariants.{Int, Enum, Boolean}

-- how the translation is to be read: with the default marks, and any order word
abbrev pub read_as : OrderWord → Bool → ModelOpts
read_as order fold = record { order = order; marks = record { separator = 44; alias = 124; prefix = 126 }; fold = fold }

-- a value, with one name, not marked, of weight 1
abbrev pub value_is : Kind → List ℕ → Value
value_is kind value = record { names = value_text kind value ∷ []; weight = 1; negative = false }

abbrev pub is_int : Kind → Bool
is_int Int = true
is_int Enum = false
is_int Boolean = false

-- the parameter of a line; it is numeric where it is an int
abbrev pub param_is : ℕ × Parameter → Param
param_is (line, param) = record { name = param.name; line = line; numeric = is_int param.kind; values = map (value_is param.kind) param.values }

-- the relation of members by their numbers
abbrev pub group_is : Bool → List Parameter → Relation → Group
group_is fold params relation = record { order = digits_value 10 relation.strength; members = map (number_named fold params) relation.members }

-- constraints of these lines hold on the same rows
abbrev pub AreSame : ModelView → Bool → List Parameter → List RuleView → List (ℕ × Constraint) → Type 0
AreSame m fold params [] [] = Unit {0}
AreSame m fold params (rule ∷ rules) (found ∷ constraints) =
    (rule.line ≡ found.0)
    × ((row : List (Option ℕ)) → is_row m row ≡ true → body_holds m rule.body row ≡ constraint_holds fold params row found.1)
    × AreSame m fold params rules constraints
AreSame m fold params rules constraints = ⊥

-- the model says what the lines say
pub record SaysTheSame (opts : ModelOpts) (lines : List Line) (m : ModelView) : Type 0 where
  pub params : m.params ≡ map param_is (parameters_of lines)
  pub order : m.demand.order ≡ order_in opts.order (length (parameters_of lines))
  pub subs : m.demand.subs ≡ []
  pub relations : m.demand.relations ≡ map (λ found. group_is opts.fold (map (λ param. param.1) (parameters_of lines)) found.1) (relations_of lines)
  pub rules : AreSame m opts.fold (map (λ param. param.1) (parameters_of lines)) m.rules (constraints_of lines)
  pub prefix : m.prefix ≡ opts.marks.prefix
  pub fold : m.fold ≡ opts.fold

-- an answer is such a model without notes, or a refusal by a limit or since the order is above the number of
-- parameters
abbrev pub Says : ModelOpts → List Line → Answer → Type 0
Says opts lines (Ok (m, notes)) = (notes ≡ []) × SaysTheSame opts lines m
Says opts lines (Err (Limit limit count)) = Unit {0}
Says opts lines (Err (Bad diag)) = diag.code ≡ OrderTooLarge
Says opts lines (Err (BadRule diag)) = ⊥
Says opts lines (Err NoMemory) = ⊥

-- a text says what a file says: the file isn't refused, and the answer of the text says the same, whatever the order
pub record IsFaithful (fold : Bool) (bytes text : List ℕ) : Type 0 where
  pub lines : List Line
  pub declares : acts fold bytes ≡ Ok lines
  pub says : (order : OrderWord) (answer : Answer) → IsAnswerOf (read_as order fold) text answer → Says (read_as order fold) lines answer
