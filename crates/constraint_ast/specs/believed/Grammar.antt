-- The grammar of constraints, one constructor for each of its lines: which tree the tokens at the
-- start of a list spell, and which tokens are left behind it. (PICT's guide; the sign terms and the
-- depth are this project's rules.)
use Rattle.std.specs.Prelude.{◌≡◌, ◌⊎◌, ℕ, suc, List, [], ◌∷◌, ◌++◌}
use Rattle.model_lex.specs.declared.diag.Diag.{Diag}
use Rattle.model_lex.specs.declared.diag.DiagCode.{DiagCode}
use Rattle.model_lex.specs.declared.diag.DiagCode.TheVariants.{PredicateExpected, RelationExpected, OperandExpected, MarkExpected, TooDeep}
use Rattle.constraint_ast.specs.believed.Trees.{Tree, Trees, Leaf, Negated, End, More, all_of, any_of, Plain, IfThen, IfElse, RuleTree}
use Rattle.constraint_ast.specs.declared.token.LineToken.{LineToken}
use Rattle.constraint_ast.specs.declared.token.RuleToken.{RuleToken}
use Rattle.constraint_ast.specs.declared.token.RuleToken.TheVariants.{Name, Literal, Relation, If, Then, Else, And, Or, Not, In, Like}
use Rattle.constraint_ast.specs.declared.token.RuleToken.TheVariants.{Sign, OpenParen, CloseParen, OpenBrace, CloseBrace, Comma, Semicolon}
use Rattle.constraint_ast.specs.declared.token.Sign as signs
use Rattle.constraint_ast.specs.declared.token.Sign.TheVariants as signs_of
use Rattle.constraint_ast.specs.declared.tree.RawRel.{RawRel}
use Rattle.constraint_ast.specs.declared.tree.RawLiteral.{RawLiteral}
use Rattle.constraint_ast.specs.declared.tree.RawLiteral.TheVariants.{Words}
use Rattle.constraint_ast.specs.declared.tree.RawTerm.{RawTerm}
use Rattle.constraint_ast.specs.declared.tree.RawTerm.TheVariants as terms

-- a token at a line
abbrev pub at : ℕ → RuleToken → LineToken
at line token = record { line = line; token = token }

-- the sign term of a name
abbrev pub sign_term : signs.Sign → List ℕ → RawTerm
sign_term signs_of.Negative name = terms.Negative name
sign_term signs_of.Positive name = terms.Positive name

-- literal (, literal)* }
pub data AreLiterals : List LineToken → List RawLiteral → List LineToken → Type 0 where
  last_literal : {l k : ℕ} {x : RawLiteral} {to : List LineToken} → AreLiterals (at l (Literal x) ∷ at k CloseBrace ∷ to) (x ∷ []) to
  next_literal : {l k : ℕ} {x : RawLiteral} {from to : List LineToken} {xs : List RawLiteral} → AreLiterals from xs to → AreLiterals (at l (Literal x) ∷ at k Comma ∷ from) (x ∷ xs) to

-- how many `(` and NOTs may be open inside one another in the constraints of a file
abbrev pub most_open : ℕ
most_open = 64

-- the room is how many of them may yet be opened
mutual
  -- NOT unit | ( pred ) | term
  pub data IsUnit : ℕ → List LineToken → Tree → List LineToken → Type 0 where
    negation : {room l : ℕ} {from to : List LineToken} {tree : Tree} → IsUnit room from tree to → IsUnit (suc room) (at l Not ∷ from) (Negated tree) to
    parens : {room l k : ℕ} {from to : List LineToken} {parts : Trees} → AreConjs room from parts (at k CloseParen ∷ to) → IsUnit (suc room) (at l OpenParen ∷ from) (any_of parts) to
    value_is :
        {room l k i : ℕ} {name : List ℕ} {rel : RawRel} {x : RawLiteral} {to : List LineToken}
        → IsUnit room (at l (Name name) ∷ at k (Relation rel) ∷ at i (Literal x) ∷ to) (Leaf l (terms.ValueIs name rel x)) to
    param_is :
        {room l k i : ℕ} {name other : List ℕ} {rel : RawRel} {to : List LineToken}
        → IsUnit room (at l (Name name) ∷ at k (Relation rel) ∷ at i (Name other) ∷ to) (Leaf l (terms.ParamIs name rel other)) to
    one_of :
        {room l k i : ℕ} {name : List ℕ} {xs : List RawLiteral} {from to : List LineToken}
        → AreLiterals from xs to → IsUnit room (at l (Name name) ∷ at k In ∷ at i OpenBrace ∷ from) (Leaf l (terms.OneOf name xs)) to
    none_of :
        {room l k i j : ℕ} {name : List ℕ} {xs : List RawLiteral} {from to : List LineToken}
        → AreLiterals from xs to → IsUnit (suc room) (at l (Name name) ∷ at k Not ∷ at i In ∷ at j OpenBrace ∷ from) (Negated (Leaf l (terms.OneOf name xs))) to
    like :
        {room l k i : ℕ} {name pattern : List ℕ} {to : List LineToken}
        → IsUnit room (at l (Name name) ∷ at k Like ∷ at i (Literal (Words pattern)) ∷ to) (Leaf l (terms.Like name pattern)) to
    not_like :
        {room l k i j : ℕ} {name pattern : List ℕ} {to : List LineToken}
        → IsUnit (suc room) (at l (Name name) ∷ at k Not ∷ at i Like ∷ at j (Literal (Words pattern)) ∷ to) (Negated (Leaf l (terms.Like name pattern))) to
    signed :
        {room l k i j : ℕ} {sign : signs.Sign} {name : List ℕ} {to : List LineToken}
        → IsUnit room (at l (Sign sign) ∷ at k OpenParen ∷ at i (Name name) ∷ at j CloseParen ∷ to) (Leaf l (sign_term sign name)) to

  -- unit (AND unit)*
  pub data AreUnits : ℕ → List LineToken → Trees → List LineToken → Type 0 where
    last_unit : {room : ℕ} {from to : List LineToken} {tree : Tree} → IsUnit room from tree to → AreUnits room from (More tree End) to
    next_unit :
        {room l : ℕ} {from next to : List LineToken} {tree : Tree} {trees : Trees}
        → IsUnit room from tree (at l And ∷ next) → AreUnits room next trees to → AreUnits room from (More tree trees) to

  -- conj (OR conj)*
  pub data AreConjs : ℕ → List LineToken → Trees → List LineToken → Type 0 where
    last_conj : {room : ℕ} {from to : List LineToken} {parts : Trees} → AreUnits room from parts to → AreConjs room from (More (all_of parts) End) to
    next_conj :
        {room l : ℕ} {from next to : List LineToken} {parts trees : Trees}
        → AreUnits room from parts (at l Or ∷ next) → AreConjs room next trees to → AreConjs room from (More (all_of parts) trees) to

-- IF pred THEN pred [ELSE pred] ; | pred ;
pub data IsRule : ℕ → List LineToken → RuleTree → List LineToken → Type 0 where
  plain :
      {room k : ℕ} {first : LineToken} {from to : List LineToken} {parts : Trees}
      → AreConjs room (first ∷ from) parts (at k Semicolon ∷ to) → IsRule room (first ∷ from) (record { line = first.line; body = Plain (any_of parts) }) to
  if_then :
      {room l k i : ℕ} {from next to : List LineToken} {premise parts : Trees}
      → AreConjs room from premise (at k Then ∷ next) → AreConjs room next parts (at i Semicolon ∷ to)
      → IsRule room (at l If ∷ from) (record { line = l; body = IfThen (any_of premise) (any_of parts) }) to
  if_else :
      {room l k i j : ℕ} {from next behind to : List LineToken} {premise parts others : Trees}
      → AreConjs room from premise (at k Then ∷ next) → AreConjs room next parts (at i Else ∷ behind) → AreConjs room behind others (at j Semicolon ∷ to)
      → IsRule room (at l If ∷ from) (record { line = l; body = IfElse (any_of premise) (any_of parts) (any_of others) }) to

-- rule*
pub data AreRules : ℕ → List LineToken → List RuleTree → Type 0 where
  no_rule : {room : ℕ} → AreRules room [] []
  next_rule :
      {room : ℕ} {from to : List LineToken} {rule : RuleTree} {rules : List RuleTree}
      → IsRule room from rule to → AreRules room to rules → AreRules room from (rule ∷ rules)

-- some constraints begin with these tokens
abbrev pub CanBegin : ℕ → List LineToken → Type 0
CanBegin room front = (more : List LineToken) × (rules : List RuleTree) × AreRules room (front ++ more) rules

-- no constraints go on with the first of the rest, or end where there is none
abbrev pub CannotGoOn : ℕ → List LineToken → List LineToken → Type 0
CannotGoOn room front (token ∷ rest) = ¬ (CanBegin room (front ++ token ∷ []))
CannotGoOn room front [] = (rules : List RuleTree) → ¬ (AreRules room front rules)

-- this token could stand behind these
abbrev pub Could : ℕ → List LineToken → RuleToken → Type 0
Could room front token = CanBegin room (front ++ at 0 token ∷ [])

-- a unit could stand there: ISNEGATIVE stands nowhere else
abbrev pub UnitCould : ℕ → List LineToken → Type 0
UnitCould room front = Could room front (Sign signs_of.Negative)

-- what the grammar would allow in place of a refused token: a unit; a relation, IN or LIKE; a
-- literal, a text or a name; a mark or THEN
abbrev pub Expects : ℕ → DiagCode → List LineToken → Type 0
Expects room PredicateExpected front = UnitCould room front
Expects room RelationExpected front = Could room front In
Expects room OperandExpected front = Could room front (Literal (Words [])) ⊎ (Could room front (Name []) × ¬ (UnitCould room front))
Expects room MarkExpected front =
    Could room front CloseParen ⊎ Could room front OpenBrace ⊎ Could room front CloseBrace ⊎ Could room front Then ⊎ Could room front Semicolon
    ⊎ (Could room front OpenParen × ¬ (UnitCould room front))
Expects room code front = ⊥

-- with one more room the tokens could go on
abbrev pub CouldDeeper : ℕ → List LineToken → List LineToken → Type 0
CouldDeeper room front (token ∷ rest) = CanBegin (suc room) (front ++ token ∷ [])
CouldDeeper room front [] = ⊥

-- why they can't go on: for want of room alone, or else something else would be allowed
abbrev pub Explains : ℕ → DiagCode → List LineToken → List LineToken → Type 0
Explains room TooDeep front rest = CouldDeeper room front rest
Explains room code front rest = ¬ (CouldDeeper room front rest) × Expects room code front

-- the line of the last token; 0 where there is none
abbrev pub last_line : List LineToken → ℕ
last_line [] = 0
last_line (token ∷ []) = token.line
last_line (token ∷ next ∷ tokens) = last_line (next ∷ tokens)

-- where a refusal is told: at its token, or else at the last token
abbrev pub refusal_line : ℕ → List LineToken → ℕ
refusal_line last [] = last
refusal_line last (token ∷ rest) = token.line

-- a list of tokens is refused at its first token that can't go on, or at its end
pub record Refused (room : ℕ) (tokens : List LineToken) (diag : Diag) : Type 0 where
  pub front : List LineToken
  pub rest : List LineToken
  pub split : tokens ≡ front ++ rest
  pub line : diag.line ≡ refusal_line (last_line tokens) rest
  pub begins : CanBegin room front
  pub stuck : CannotGoOn room front rest
  pub code : Explains room diag.code front rest
