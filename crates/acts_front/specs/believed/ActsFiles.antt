-- What a file in the form of ACTS declares, line by line, or its first refusal. (The ACTS guide; the order of the
-- refusals is this project's rule.)
use Rattle.std.specs.Prelude.{ℕ, ◌+◌, Bool, true, false, List, [], ◌∷◌, ◌++◌, length, Option, Some, None, Result, Ok, Err, ◌==◌, if◌then◌else◌, is_some, unwrap_or}
use Rattle.std.specs.List.{list_all, list_any}
use Rattle.model_lex.specs.believed.Lines.{numbered_lines}
use Rattle.acts_front.specs.believed.Lines.{begun, is_allowed, is_heading, line_text}
use Rattle.acts_front.specs.believed.ParameterLines.{Declared, Parameter, Scope, read_parameter}
use Rattle.acts_front.specs.believed.RelationLines.{Relation, read_relation}
use Rattle.acts_front.specs.believed.Tokens.{Token, tokens_found}
use Rattle.acts_front.specs.believed.Constraints.{Constraint, cons_of, constraint_code}
use Rattle.constraint_ast.specs.believed.Grammar.{most_open}
use Rattle.acts_front.specs.declared.code.ActsCode.{ActsCode}
use Rattle.acts_front.specs.declared.code.ActsCode.TheVariants.{A1, A2, A8, A9}
use Rattle.acts_front.specs.declared.section.Section.{Section}
use Rattle.acts_front.specs.declared.section.Section.TheVariants.{Outside, System, Parameters, Relations, Constraints}

-- what a line gives: nothing, where it is empty, a comment, a header or a line of the system; a parameter; a
-- relation; or a constraint, with its tokens
pub data Line : Type 0 where
  Nothing : Line
  OfParameter : Parameter → Line
  OfRelation : Relation → Line
  OfConstraint : List Token → Constraint → Line

abbrev pub parameter_line : Result Parameter ActsCode → Result Line ActsCode
parameter_line (Ok param) = Ok (OfParameter param)
parameter_line (Err code) = Err code

abbrev pub relation_line : Result Relation ActsCode → Result Line ActsCode
relation_line (Ok relation) = Ok (OfRelation relation)
relation_line (Err code) = Err code

-- the constraint of tokens, unless it is refused
abbrev pub unless_refused : Option ActsCode → Line → Result Line ActsCode
unless_refused (Some code) line = Err code
unless_refused None line = Ok line

abbrev pub spelled_line : Scope → List Token → Option Constraint → Result Line ActsCode
spelled_line scope tokens (Some constraint) = unless_refused (constraint_code scope constraint) (OfConstraint tokens constraint)
spelled_line scope tokens None = Err A9

abbrev pub constraint_line : Scope → Option (List Token) → Result Line ActsCode
constraint_line scope (Some tokens) = spelled_line scope tokens (cons_of most_open tokens)
constraint_line scope None = Err A9

-- what a text that is no header and isn't empty gives in a section
abbrev pub line_in : Section → Scope → List ℕ → Result Line ActsCode
line_in Outside scope text = Err A2
line_in System scope text = Ok Nothing
line_in Parameters scope text = parameter_line (read_parameter scope text)
line_in Relations scope text = relation_line (read_relation scope text)
line_in Constraints scope text = constraint_line scope (tokens_found text)

-- what a text gives
abbrev pub text_gives : Section → Scope → List ℕ → Result Line ActsCode
text_gives section scope text =
    if length text == 0 then Ok Nothing
    else if is_heading text then (if is_some (begun section text) then Ok Nothing else Err A2)
    else line_in section scope text

-- what a line gives
abbrev pub line_gives : Section → Scope → List ℕ → Result Line ActsCode
line_gives section scope line =
    if list_all is_allowed line then text_gives section scope (line_text line) else Err A1

-- the section of what stands behind a text, and behind a line
abbrev pub section_in : Section → List ℕ → Section
section_in section text = if is_heading text then unwrap_or (begun section text) section else section

abbrev pub section_behind : Section → List ℕ → Section
section_behind section line = section_in section (line_text line)

-- the parameter that a line declares
abbrev pub declared_by : Line → List Declared
declared_by Nothing = []
declared_by (OfParameter param) = record { name = param.name; kind = param.kind } ∷ []
declared_by (OfRelation relation) = []
declared_by (OfConstraint tokens constraint) = []

abbrev pub and_line : Scope → Line → Scope
and_line scope line = record scope { params = scope.params ++ declared_by line }

-- a line before others
abbrev pub line_and : Line → Result (List Line) (ℕ × ActsCode) → Result (List Line) (ℕ × ActsCode)
line_and line (Ok lines) = Ok (line ∷ lines)
line_and line (Err refused) = Err refused

-- what a line of a number gives before others, which it may concern, or its refusal
abbrev pub line_before : ℕ → Result Line ActsCode → (Line → Result (List Line) (ℕ × ActsCode)) → Result (List Line) (ℕ × ActsCode)
line_before number (Ok line) others = line_and line (others line)
line_before number (Err code) others = Err (number, code)

-- what lines give in a section, or the first refusal
abbrev pub lines_give : Section → Scope → List (ℕ × List ℕ) → Result (List Line) (ℕ × ActsCode)
lines_give section scope [] = Ok []
lines_give section scope (line ∷ lines) =
    line_before line.0 (line_gives section scope line.1) (λ given. lines_give (section_behind section line.1) (and_line scope given) lines)

-- there has to be a parameter
abbrev pub is_parameter : Line → Bool
is_parameter (OfParameter param) = true
is_parameter line = false

abbrev pub with_parameters : Result (List Line) (ℕ × ActsCode) → Result (List Line) (ℕ × ActsCode)
with_parameters (Ok lines) = if list_any is_parameter lines then Ok lines else Err (1, A8)
with_parameters (Err refused) = Err refused

-- what the lines of a file give, in order, or the first refusal: a line, from 1, with a code
abbrev pub acts : Bool → List ℕ → Result (List Line) (ℕ × ActsCode)
acts fold bytes = with_parameters (lines_give Outside (record { fold = fold; params = [] }) (numbered_lines bytes))

-- the parameters, the relations and the constraints of lines that are numbered from here on, each with its line
abbrev pub parameters_from : ℕ → List Line → List (ℕ × Parameter)
parameters_from number [] = []
parameters_from number (Nothing ∷ lines) = parameters_from (number + 1) lines
parameters_from number (OfParameter param ∷ lines) = (number, param) ∷ parameters_from (number + 1) lines
parameters_from number (OfRelation relation ∷ lines) = parameters_from (number + 1) lines
parameters_from number (OfConstraint tokens constraint ∷ lines) = parameters_from (number + 1) lines

abbrev pub relations_from : ℕ → List Line → List (ℕ × Relation)
relations_from number [] = []
relations_from number (Nothing ∷ lines) = relations_from (number + 1) lines
relations_from number (OfParameter param ∷ lines) = relations_from (number + 1) lines
relations_from number (OfRelation relation ∷ lines) = (number, relation) ∷ relations_from (number + 1) lines
relations_from number (OfConstraint tokens constraint ∷ lines) = relations_from (number + 1) lines

abbrev pub constraints_from : ℕ → List Line → List (ℕ × Constraint)
constraints_from number [] = []
constraints_from number (Nothing ∷ lines) = constraints_from (number + 1) lines
constraints_from number (OfParameter param ∷ lines) = constraints_from (number + 1) lines
constraints_from number (OfRelation relation ∷ lines) = constraints_from (number + 1) lines
constraints_from number (OfConstraint tokens constraint ∷ lines) = (number, constraint) ∷ constraints_from (number + 1) lines

-- those of a file
abbrev pub parameters_of : List Line → List (ℕ × Parameter)
parameters_of lines = parameters_from 1 lines

abbrev pub relations_of : List Line → List (ℕ × Relation)
relations_of lines = relations_from 1 lines

abbrev pub constraints_of : List Line → List (ℕ × Constraint)
constraints_of lines = constraints_from 1 lines
