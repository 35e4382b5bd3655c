-- What the code's parameters, relations and tokens are, and how the translation goes on line by line.
use Rattle.std.specs.Prelude.{◌≡◌, ℕ, ◌+◌, ◌≤◌, ◌^◌, Bool, List, [], ◌∷◌, ◌++◌, map, length, Option, Some, None, Result, Ok, Err, option_map, codes}
use Rattle.std.specs.List.{enumerate_from, flat_map}
use Rattle.std.specs.declared.alloc.Global.{Global}
use Rattle.std.specs.Prelude.{Vec}
use Rattle.model_lex.specs.believed.Lines.{file_lines}
use Rattle.acts_front.specs.believed.ParameterLines as parameters
use Rattle.acts_front.specs.believed.RelationLines as relations
use Rattle.acts_front.specs.believed.Tokens as tokens
use Rattle.acts_front.specs.believed.Constraints.{is_and, is_or}
use Rattle.acts_front.specs.believed.ActsFiles.{Line, and_line, declared_by, lines_give}
use Rattle.acts_front.specs.believed.Translation.{translated_text, lines_text}
use Rattle.acts_front.specs.declared.code.ActsCode.{ActsCode}
use Rattle.acts_front.specs.declared.code.ActsFault.{ActsFault}
use Rattle.acts_front.specs.declared.code.ActsFault.TheVariants.{Bad, NoMemory}
use Rattle.acts_front.specs.declared.constraint.Joint as joints
use Rattle.acts_front.specs.declared.constraint.Joint.TheVariants as joint
use Rattle.acts_front.specs.declared.parameter.Parameter.{Parameter}
use Rattle.acts_front.specs.declared.relation.Relation.{Relation}
use Rattle.acts_front.specs.declared.section.Section.{Section}
use Rattle.acts_front.specs.declared.section.Section.TheVariants.{Outside}
use Rattle.acts_front.specs.declared.token.Token.{Token}
use Rattle.acts_front.specs.declared.token.Token.TheVariants.{Name, Whole, Words, Truth, Relation as Related, Arrow, Or, And, Not, Open, Close}
use Rattle.acts_front.specs.declared.translator.Translator.{Translator}

abbrev pub parameter_seen : Parameter → parameters.Parameter
parameter_seen param = record { name = param.name.now; kind = param.kind; values = map (λ value. value.now) param.values.items }

abbrev pub relation_seen : Relation → relations.Relation
relation_seen relation = record { members = map (λ member. member.now) relation.members.items; strength = relation.strength.now }

abbrev pub token_seen : Token → tokens.Token
token_seen (Name name) = tokens.Name name.now
token_seen (Whole text) = tokens.Whole text.now
token_seen (Words text) = tokens.Words text.now
token_seen (Truth truth) = tokens.Truth truth
token_seen (Related rel) = tokens.Relation rel
token_seen Arrow = tokens.Arrow
token_seen Or = tokens.Or
token_seen And = tokens.And
token_seen Not = tokens.Not
token_seen Open = tokens.Open
token_seen Close = tokens.Close

abbrev pub tokens_seen : List Token → List tokens.Token
tokens_seen list = map token_seen list

abbrev pub found_seen : Option (Token × ℕ) → tokens.Found
found_seen found = option_map (λ f. (token_seen f.0, f.1)) found

-- the tokens that part a list
abbrev pub joint_test : joints.Joint → tokens.Token → Bool
joint_test joint.Or token = is_or token
joint_test joint.And token = is_and token

-- a part before others, if there are some
abbrev pub part_before : List tokens.Token → Option (List (List tokens.Token)) → List (List tokens.Token)
part_before part (Some parts) = part ∷ parts
part_before part None = part ∷ []

-- an answer that gives what a line of this number is wanted to give, or its refusal
abbrev pub Reads : {A B : Type 0} → ℕ → (B → A) → Result A ActsCode → Result B ActsFault → Type 0
Reads number seen wanted (Ok found) = wanted ≡ Ok (seen found)
Reads number seen wanted (Err (Bad line code)) = (line ≡ number) × (wanted ≡ Err code)
Reads number seen wanted (Err NoMemory) = Unit {0}

-- behind a line that gives this, and of which this is written, in this section
pub record IsAdded (before after : Translator) (section : Section) (given : Line) (text : List ℕ) : Type 0 where
  pub texts : after.text.items ≡ before.text.items ++ text
  pub declared : after.scope ≡ and_line before.scope given
  pub stands : after.section ≡ section

-- an answer that goes on with what the line of this number gives, or its refusal
abbrev pub Adds : ℕ → Section → (Line → List ℕ) → Result Line ActsCode → Translator → Result Translator ActsFault → Type 0
Adds number section text (Ok given) before (Ok after) = IsAdded before after section given (text given)
Adds number section text (Err code) before (Ok after) = ⊥
Adds number section text given before (Err (Bad line code)) = (line ≡ number) × (given ≡ Err code)
Adds number section text given before (Err NoMemory) = Unit {0}

-- the text of a line, without and with its line feed
abbrev pub ended : Line → List ℕ
ended line = translated_text line ++ codes "\n"

-- an answer that gives the text, or the refusal
abbrev pub Translates : Result (List ℕ) (ℕ × ActsCode) → Result (Vec ℕ Global) ActsFault → Type 0
Translates wanted (Ok text) = wanted ≡ Ok text.items
Translates wanted (Err (Bad line code)) = wanted ≡ Err (line, code)
Translates wanted (Err NoMemory) = Unit {0}

-- lines before others
abbrev pub lines_before : List Line → Result (List Line) (ℕ × ActsCode) → Result (List Line) (ℕ × ActsCode)
lines_before lines (Ok others) = Ok (lines ++ others)
lines_before lines (Err refused) = Err refused

-- what is asked of all lines of a file, once some are read and a rest is left
pub record SoFar (lines : List (ℕ × List ℕ)) (fold : Bool) (t : Translator) (number : ℕ) (rest : List ℕ) : Type 0 where
  pub given : List Line
  pub whole : lines_give Outside (record { fold = fold; params = [] }) lines ≡ lines_before given (lines_give t.section t.scope (enumerate_from (number + 1) (file_lines rest)))
  pub texts : t.text.items ≡ lines_text given
  pub declared : t.scope ≡ record { fold = fold; params = flat_map declared_by given }
  pub few : number + length rest ≤ 2 ^ 28
