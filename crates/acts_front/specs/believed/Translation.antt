-- The translation of a file in the form of ACTS to a model file, line by line. (The ACTS guide and PICT's guide;
-- which text is written is this project's rule.)
use Rattle.std.specs.Prelude.{ℕ, Bool, true, false, List, [], ◌++◌, map, flat_map, Result, Ok, Err, codes, if◌then◌else◌}
use Rattle.std.specs.List.{list_any}
use Rattle.cov_model.specs.declared.constraint.Rel.{Rel}
use Rattle.cov_model.specs.declared.constraint.Rel.TheVariants.{Eq, Ne, Gt, Ge, Lt, Le}
use Rattle.model_parse.specs.believed.Written.{joined}
use Rattle.acts_front.specs.believed.ParameterLines.{Parameter, is_true}
use Rattle.acts_front.specs.believed.RelationLines as relations
use Rattle.acts_front.specs.believed.Tokens.{Token, Name, Whole, Words, Truth, Relation, Arrow, Or, And, Not, Open, Close}
use Rattle.acts_front.specs.believed.Constraints.{is_arrow}
use Rattle.acts_front.specs.believed.ActsFiles.{Line, Nothing, OfParameter, OfRelation, OfConstraint, acts}
use Rattle.acts_front.specs.declared.code.ActsCode.{ActsCode}
use Rattle.acts_front.specs.declared.kind.Kind.{Kind}
use Rattle.acts_front.specs.declared.kind.Kind.TheVariants.{Boolean}

-- a truth value in capitals
abbrev pub truth_text : Bool → List ℕ
truth_text true = codes "TRUE"
truth_text false = codes "FALSE"

-- `NAME: VALUE, VALUE`: values as they stand, but boolean ones in capitals
abbrev pub value_text : Kind → List ℕ → List ℕ
value_text Boolean value = truth_text (is_true value)
value_text kind value = value

abbrev pub parameter_text : Parameter → List ℕ
parameter_text param = param.name ++ codes ": " ++ joined (codes ", ") (map (value_text param.kind) param.values)

-- `@ K { P, P }`
abbrev pub relation_text : relations.Relation → List ℕ
relation_text relation = codes "@ " ++ relation.strength ++ codes " { " ++ joined (codes ", ") relation.members ++ codes " }"

-- a token of a constraint; `=>` becomes THEN
abbrev pub rel_text : Rel → List ℕ
rel_text Eq = codes "="
rel_text Ne = codes "<>"
rel_text Gt = codes ">"
rel_text Ge = codes ">="
rel_text Lt = codes "<"
rel_text Le = codes "<="

abbrev pub token_text : Token → List ℕ
token_text (Name name) = codes "[" ++ name ++ codes "]"
token_text (Whole text) = text
token_text (Words text) = codes "\"" ++ text ++ codes "\""
token_text (Truth truth) = codes "\"" ++ truth_text truth ++ codes "\""
token_text (Relation rel) = rel_text rel
token_text Arrow = codes "THEN"
token_text Or = codes "OR"
token_text And = codes "AND"
token_text Not = codes "NOT"
token_text Open = codes "("
token_text Close = codes ")"

-- `IF P THEN Q;` or `P;`, with one blank between two tokens
abbrev pub opening : List Token → List ℕ
opening tokens = if list_any is_arrow tokens then codes "IF " else []

abbrev pub constraint_text : List Token → List ℕ
constraint_text tokens = opening tokens ++ joined (codes " ") (map token_text tokens) ++ codes ";"

-- the line that a line becomes
abbrev pub translated_text : Line → List ℕ
translated_text Nothing = []
translated_text (OfParameter param) = parameter_text param
translated_text (OfRelation relation) = relation_text relation
translated_text (OfConstraint tokens constraint) = constraint_text tokens

-- each line with a line feed
abbrev pub lines_text : List Line → List ℕ
lines_text lines = flat_map (λ line. translated_text line ++ codes "\n") lines

abbrev pub text_given : Result (List Line) (ℕ × ActsCode) → Result (List ℕ) (ℕ × ActsCode)
text_given (Ok lines) = Ok (lines_text lines)
text_given (Err refused) = Err refused

-- the model file that a file in the form of ACTS becomes, or the first refusal
abbrev pub translation : Bool → List ℕ → Result (List ℕ) (ℕ × ActsCode)
translation fold bytes = text_given (acts fold bytes)
