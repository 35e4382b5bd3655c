-- The line that writes a constraint's tree. (The language is that of PICT's guide; which of its
-- spellings is written is this project's rule.)
use Rattle.std.specs.Prelude.{ℕ, zero, suc, ◌+◌, ◌/◌, ◌%◌, ◌^◌, ℤ, pos, negsuc, Bool, true, false}
use Rattle.std.specs.Prelude.{◌||◌, List, [], ◌∷◌, ◌++◌, ◌==◌, if◌then◌else◌, codes, decimal}
use Rattle.model_lex.specs.believed.Tokens.{is_quotable}
use Rattle.constraint_ast.specs.believed.Trees.{Tree, Trees, Leaf, Negated, Each, Either, End, More, BodyTree, Plain, IfThen, IfElse, RuleTree}
use Rattle.constraint_ast.specs.declared.token.RuleToken.{RuleToken}
use Rattle.constraint_ast.specs.declared.token.RuleToken.TheVariants.{Name, Literal, Relation, If, Then, Else, And, Or, Not, In, Like}
use Rattle.constraint_ast.specs.declared.token.RuleToken.TheVariants.{Sign, OpenParen, CloseParen, OpenBrace, CloseBrace, Comma, Semicolon}
use Rattle.constraint_ast.specs.declared.token.Sign.TheVariants.{Negative, Positive}
use Rattle.constraint_ast.specs.declared.tree.RawRel.{RawRel}
use Rattle.constraint_ast.specs.declared.tree.RawRel.TheVariants.{Eq, Ne, Gt, Ge, Lt, Le}
use Rattle.constraint_ast.specs.declared.tree.RawLiteral.{RawLiteral}
use Rattle.constraint_ast.specs.declared.tree.RawLiteral.TheVariants.{Words, Number}
use Rattle.constraint_ast.specs.declared.tree.RawTerm.{RawTerm}
use Rattle.constraint_ast.specs.declared.tree.RawTerm.TheVariants as terms
use Rattle.constraint_ast.specs.declared.writer.Place.{Place}
use Rattle.constraint_ast.specs.declared.writer.Place.TheVariants.{Alone, InAny, InAllOrNot}

-- ---- which tokens are written; each function writes before a rest

-- literals, with commas between them
abbrev pub more_literals : List RawLiteral → List RuleToken → List RuleToken
more_literals [] rest = rest
more_literals (x ∷ xs) rest = Comma ∷ Literal x ∷ more_literals xs rest

abbrev pub literals_before : List RawLiteral → List RuleToken → List RuleToken
literals_before [] rest = rest
literals_before (x ∷ xs) rest = Literal x ∷ more_literals xs rest

abbrev pub term_before : RawTerm → List RuleToken → List RuleToken
term_before (terms.ValueIs name rel x) rest = Name name ∷ Relation rel ∷ Literal x ∷ rest
term_before (terms.ParamIs name rel other) rest = Name name ∷ Relation rel ∷ Name other ∷ rest
term_before (terms.OneOf name xs) rest = Name name ∷ In ∷ OpenBrace ∷ literals_before xs (CloseBrace ∷ rest)
term_before (terms.Like name pattern) rest = Name name ∷ Like ∷ Literal (Words pattern) ∷ rest
term_before (terms.Negative name) rest = Sign Negative ∷ OpenParen ∷ Name name ∷ CloseParen ∷ rest
term_before (terms.Positive name) rest = Sign Positive ∷ OpenParen ∷ Name name ∷ CloseParen ∷ rest

-- parentheses stand round an All in an All or a Not, and round an Any in an Any, an All or a Not
abbrev pub all_has_parens : Place → Bool
all_has_parens Alone = false
all_has_parens InAny = false
all_has_parens InAllOrNot = true

abbrev pub any_has_parens : Place → Bool
any_has_parens Alone = false
any_has_parens InAny = true
any_has_parens InAllOrNot = true

abbrev pub in_parens : Bool → (List RuleToken → List RuleToken) → List RuleToken → List RuleToken
in_parens true inner rest = OpenParen ∷ inner (CloseParen ∷ rest)
in_parens false inner rest = inner rest

-- a predicate, and predicates with a word between them
abbrev mutual
  pub tree_before : Place → Tree → List RuleToken → List RuleToken
  tree_before place (Leaf line term) rest = term_before term rest
  tree_before place (Negated tree) rest = Not ∷ tree_before InAllOrNot tree rest
  tree_before place (Each trees) rest = in_parens (all_has_parens place) (λ rest. trees_before And InAllOrNot trees rest) rest
  tree_before place (Either trees) rest = in_parens (any_has_parens place) (λ rest. trees_before Or InAny trees rest) rest

  pub trees_before : RuleToken → Place → Trees → List RuleToken → List RuleToken
  trees_before word place End rest = rest
  trees_before word place (More tree trees) rest = tree_before place tree (more_before word place trees rest)

  pub more_before : RuleToken → Place → Trees → List RuleToken → List RuleToken
  more_before word place End rest = rest
  more_before word place (More tree trees) rest = word ∷ tree_before place tree (more_before word place trees rest)

-- the tokens of a constraint
abbrev pub body_tokens : BodyTree → List RuleToken
body_tokens (Plain pred) = tree_before Alone pred (Semicolon ∷ [])
body_tokens (IfThen premise pred) = If ∷ tree_before Alone premise (Then ∷ tree_before Alone pred (Semicolon ∷ []))
body_tokens (IfElse premise pred other) = If ∷ tree_before Alone premise (Then ∷ tree_before Alone pred (Else ∷ tree_before Alone other (Semicolon ∷ [])))

-- ---- how a token is written

-- a backslash before each `"`, `]` and backslash
abbrev pub quoted : List ℕ → List ℕ
quoted [] = []
quoted (b ∷ rest) = if is_quotable b then 92 ∷ b ∷ quoted rest else b ∷ quoted rest

-- so many decimals, up to the last that isn't 0
abbrev pub decimals : ℕ → ℕ → List ℕ
decimals zero left = []
decimals (suc k) left = if left == 0 then [] else (48 + left / 10 ^ k) ∷ decimals k (left % 10 ^ k)

-- a point and decimals, where one of them isn't 0
abbrev pub fraction : ℕ → List ℕ
fraction left = if left == 0 then [] else 46 ∷ decimals 9 left

-- a number that is scaled by 10^9
abbrev pub size_text : ℕ → List ℕ
size_text size = decimal (size / 10 ^ 9) ++ fraction (size % 10 ^ 9)

abbrev pub number_text : ℤ → List ℕ
number_text (pos size) = size_text size
number_text (negsuc size) = 45 ∷ size_text (suc size)

abbrev pub literal_text : RawLiteral → List ℕ
literal_text (Words text) = 34 ∷ (quoted text ++ 34 ∷ [])
literal_text (Number number) = number_text number

abbrev pub relation_text : RawRel → List ℕ
relation_text Eq = codes "="
relation_text Ne = codes "<>"
relation_text Gt = codes ">"
relation_text Ge = codes ">="
relation_text Lt = codes "<"
relation_text Le = codes "<="

abbrev pub token_text : RuleToken → List ℕ
token_text (Name name) = 91 ∷ (quoted name ++ 93 ∷ [])
token_text (Literal literal) = literal_text literal
token_text (Relation rel) = relation_text rel
token_text If = codes "IF"
token_text Then = codes "THEN"
token_text Else = codes "ELSE"
token_text And = codes "AND"
token_text Or = codes "OR"
token_text Not = codes "NOT"
token_text In = codes "IN"
token_text Like = codes "LIKE"
token_text (Sign Negative) = codes "ISNEGATIVE"
token_text (Sign Positive) = codes "ISPOSITIVE"
token_text OpenParen = codes "("
token_text CloseParen = codes ")"
token_text OpenBrace = codes "{"
token_text CloseBrace = codes "}"
token_text Comma = codes ","
token_text Semicolon = codes ";"

-- ---- blanks between tokens

-- no blank stands behind `(` and `{`
abbrev pub opens : RuleToken → Bool
opens OpenParen = true
opens OpenBrace = true
opens token = false

-- and none before `)`, `}`, `,` and `;`
abbrev pub closes : RuleToken → Bool
closes CloseParen = true
closes CloseBrace = true
closes Comma = true
closes Semicolon = true
closes token = false

-- tokens with a blank before each but where none stands; behind what opens, the first has none
abbrev pub spaced : Bool → List RuleToken → List ℕ
spaced opened [] = []
spaced opened (token ∷ rest) = (if opened || closes token then [] else 32 ∷ []) ++ (token_text token ++ spaced (opens token) rest)

-- the line of a constraint
abbrev pub rule_text : RuleTree → List ℕ
rule_text rule = spaced true (body_tokens rule.body)
