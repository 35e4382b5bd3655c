-- The reading of constraints token by token: what has been read and still waits for more. The private
-- functions of the parser are stated in these words; the grammar is the statement, and this is proved of it.
use Rattle.std.specs.Prelude.{ℕ, zero, suc, List, [], ◌∷◌, ◌++◌, Result, Ok, Err}
use Rattle.model_lex.specs.declared.diag.Diag.{Diag}
use Rattle.model_lex.specs.declared.diag.DiagCode.{DiagCode}
use Rattle.model_lex.specs.declared.diag.DiagCode.TheVariants.{PredicateExpected, RelationExpected, OperandExpected, MarkExpected, TooDeep}
use Rattle.constraint_ast.specs.believed.Trees.{Tree, Trees, Leaf, Negated, End, all_of, any_of, Plain, IfThen, IfElse, RuleTree}
use Rattle.constraint_ast.specs.Trees.{added}
use Rattle.constraint_ast.specs.believed.Grammar.{sign_term}
use Rattle.constraint_ast.specs.declared.token.LineToken.{LineToken}
use Rattle.constraint_ast.specs.declared.token.RuleToken.{RuleToken}
use Rattle.constraint_ast.specs.declared.token.RuleToken.TheVariants.{Name, Literal, Relation, If, Then, Else, And, Or, Not, In, Like}
use Rattle.constraint_ast.specs.declared.token.RuleToken.TheVariants.{Sign, OpenParen, CloseParen, OpenBrace, CloseBrace, Comma, Semicolon}
use Rattle.constraint_ast.specs.declared.token.Sign as signs
use Rattle.constraint_ast.specs.declared.tree.RawRel.{RawRel}
use Rattle.constraint_ast.specs.declared.tree.RawLiteral.{RawLiteral}
use Rattle.constraint_ast.specs.declared.tree.RawLiteral.TheVariants.{Words}
use Rattle.constraint_ast.specs.declared.tree.RawTerm.TheVariants as terms

-- which predicate of a constraint, which begins at a line, is read
pub data Spot : Type 0 where
  InPlain : ℕ → Spot
  InIf : ℕ → Spot
  InThen : ℕ → Tree → Spot
  InElse : ℕ → Tree → Tree → Spot

-- what stands around a unit: the conjunctions and the units before it in its predicate, with the
-- predicate's room, and what stands around that; or a NOT
mutual
  pub data Around : Type 0 where
    Part : ℕ → Trees → Trees → Outer → Around
    Within : Around → Around

  pub data Outer : Type 0 where
    Top : Spot → Outer
    Paren : Around → Outer

-- what has been read: up to a constraint, a unit, behind the name of a term at a line, behind NOT
-- there, a relation, IN, `{` or `,`, a literal, LIKE; behind a sign term's word, `(`, name; a unit
pub data State : Type 0 where
  Between : State
  Need : ℕ → Around → State
  Named : ℕ → Around → ℕ → List ℕ → State
  NamedNot : Around → ℕ → List ℕ → State
  Related : Around → ℕ → List ℕ → RawRel → State
  Listed : Around → ℕ → List ℕ → State
  Opened : Around → ℕ → List ℕ → List RawLiteral → State
  Itemed : Around → ℕ → List ℕ → List RawLiteral → State
  Liked : Around → ℕ → List ℕ → State
  Signed : Around → ℕ → signs.Sign → State
  SignOpened : Around → ℕ → signs.Sign → State
  SignNamed : Around → ℕ → signs.Sign → List ℕ → State
  After : ℕ → Trees → Trees → Outer → State

-- a token leads on, ends a constraint, or is refused
pub data Step : Type 0 where
  Next : State → Step
  Done : RuleTree → Step
  Bad : DiagCode → Step

-- behind a unit, and behind a term
abbrev pub close : Around → Tree → State
close (Part room anys alls outer) tree = After room anys (added alls tree) outer
close (Within around) tree = close around (Negated tree)

-- the predicate that ends here
abbrev pub whole : Trees → Trees → Tree
whole anys alls = any_of (added anys (all_of alls))

abbrev pub need : ℕ → Around → ℕ → RuleToken → Step
need room around line (Name name) = Next (Named room around line name)
need room around line (Sign sign) = Next (Signed around line sign)
need zero around line Not = Bad TooDeep
need (suc room) around line Not = Next (Need room (Within around))
need zero around line OpenParen = Bad TooDeep
need (suc room) around line OpenParen = Next (Need room (Part room End End (Paren around)))
need room around line token = Bad PredicateExpected

abbrev pub begin : ℕ → ℕ → RuleToken → Step
begin room line If = Next (Need room (Part room End End (Top (InIf line))))
begin room line token = need room (Part room End End (Top (InPlain line))) line token

abbrev pub named : ℕ → Around → ℕ → List ℕ → RuleToken → Step
named room around line name (Relation rel) = Next (Related around line name rel)
named room around line name In = Next (Listed around line name)
named room around line name Like = Next (Liked around line name)
named zero around line name Not = Bad TooDeep
named (suc room) around line name Not = Next (NamedNot (Within around) line name)
named room around line name token = Bad RelationExpected

abbrev pub named_not : Around → ℕ → List ℕ → RuleToken → Step
named_not around line name In = Next (Listed around line name)
named_not around line name Like = Next (Liked around line name)
named_not around line name token = Bad RelationExpected

abbrev pub related : Around → ℕ → List ℕ → RawRel → RuleToken → Step
related around line name rel (Literal x) = Next (close around (Leaf line (terms.ValueIs name rel x)))
related around line name rel (Name other) = Next (close around (Leaf line (terms.ParamIs name rel other)))
related around line name rel token = Bad OperandExpected

abbrev pub listed : Around → ℕ → List ℕ → RuleToken → Step
listed around line name OpenBrace = Next (Opened around line name [])
listed around line name token = Bad MarkExpected

abbrev pub opened : Around → ℕ → List ℕ → List RawLiteral → RuleToken → Step
opened around line name xs (Literal x) = Next (Itemed around line name (xs ++ x ∷ []))
opened around line name xs token = Bad OperandExpected

abbrev pub itemed : Around → ℕ → List ℕ → List RawLiteral → RuleToken → Step
itemed around line name xs Comma = Next (Opened around line name xs)
itemed around line name xs CloseBrace = Next (close around (Leaf line (terms.OneOf name xs)))
itemed around line name xs token = Bad MarkExpected

abbrev pub liked_by : Around → ℕ → List ℕ → RawLiteral → Step
liked_by around line name (Words pattern) = Next (close around (Leaf line (terms.Like name pattern)))
liked_by around line name x = Bad OperandExpected

abbrev pub liked : Around → ℕ → List ℕ → RuleToken → Step
liked around line name (Literal x) = liked_by around line name x
liked around line name token = Bad OperandExpected

abbrev pub sign_word : Around → ℕ → signs.Sign → RuleToken → Step
sign_word around line sign OpenParen = Next (SignOpened around line sign)
sign_word around line sign token = Bad MarkExpected

abbrev pub sign_opened : Around → ℕ → signs.Sign → RuleToken → Step
sign_opened around line sign (Name name) = Next (SignNamed around line sign name)
sign_opened around line sign token = Bad OperandExpected

abbrev pub sign_named : Around → ℕ → signs.Sign → List ℕ → RuleToken → Step
sign_named around line sign name CloseParen = Next (close around (Leaf line (sign_term sign name)))
sign_named around line sign name token = Bad MarkExpected

-- behind the last predicate of a constraint
abbrev pub ended : ℕ → Spot → Tree → RuleToken → Step
ended room (InPlain line) tree Semicolon = Done (record { line = line; body = Plain tree })
ended room (InPlain line) tree token = Bad MarkExpected
ended room (InIf line) tree Then = Next (Need room (Part room End End (Top (InThen line tree))))
ended room (InIf line) tree token = Bad MarkExpected
ended room (InThen line premise) tree Semicolon = Done (record { line = line; body = IfThen premise tree })
ended room (InThen line premise) tree Else = Next (Need room (Part room End End (Top (InElse line premise tree))))
ended room (InThen line premise) tree token = Bad MarkExpected
ended room (InElse line premise pred) tree Semicolon = Done (record { line = line; body = IfElse premise pred tree })
ended room (InElse line premise pred) tree token = Bad MarkExpected

abbrev pub finished : ℕ → Outer → Tree → RuleToken → Step
finished room (Top spot) tree token = ended room spot tree token
finished room (Paren around) tree CloseParen = Next (close around tree)
finished room (Paren around) tree token = Bad MarkExpected

abbrev pub after : ℕ → ℕ → Trees → Trees → Outer → RuleToken → Step
after room left anys alls outer And = Next (Need left (Part left anys alls outer))
after room left anys alls outer Or = Next (Need left (Part left (added anys (all_of alls)) End outer))
after room left anys alls outer token = finished room outer (whole anys alls) token

abbrev pub step : ℕ → State → ℕ → RuleToken → Step
step room Between line token = begin room line token
step room (Need left around) line token = need left around line token
step room (Named left around at name) line token = named left around at name token
step room (NamedNot around at name) line token = named_not around at name token
step room (Related around at name rel) line token = related around at name rel token
step room (Listed around at name) line token = listed around at name token
step room (Opened around at name xs) line token = opened around at name xs token
step room (Itemed around at name xs) line token = itemed around at name xs token
step room (Liked around at name) line token = liked around at name token
step room (Signed around at sign) line token = sign_word around at sign token
step room (SignOpened around at sign) line token = sign_opened around at sign token
step room (SignNamed around at sign name) line token = sign_named around at sign name token
step room (After left anys alls outer) line token = after room left anys alls outer token

-- what is missing where the tokens end
abbrev pub missing : State → DiagCode
missing Between = PredicateExpected
missing (Need left around) = PredicateExpected
missing (Named left around at name) = RelationExpected
missing (NamedNot around at name) = RelationExpected
missing (Related around at name rel) = OperandExpected
missing (Listed around at name) = MarkExpected
missing (Opened around at name xs) = OperandExpected
missing (Itemed around at name xs) = MarkExpected
missing (Liked around at name) = OperandExpected
missing (Signed around at sign) = MarkExpected
missing (SignOpened around at sign) = OperandExpected
missing (SignNamed around at sign name) = MarkExpected
missing (After left anys alls outer) = MarkExpected

abbrev pub at_end : ℕ → State → Result (List RuleTree) Diag
at_end last Between = Ok []
at_end last state = Err (record { line = last; code = missing state })

abbrev pub with_rule : RuleTree → Result (List RuleTree) Diag → Result (List RuleTree) Diag
with_rule rule (Ok rules) = Ok (rule ∷ rules)
with_rule rule (Err diag) = Err diag

abbrev pub with_rules : List RuleTree → Result (List RuleTree) Diag → Result (List RuleTree) Diag
with_rules [] read = read
with_rules (rule ∷ rules) read = with_rule rule (with_rules rules read)

-- the constraints that tokens complete from a state, or the first refusal
abbrev pub go_on : (State → Result (List RuleTree) Diag) → ℕ → Step → Result (List RuleTree) Diag
go_on rest line (Next state) = rest state
go_on rest line (Done rule) = with_rule rule (rest Between)
go_on rest line (Bad code) = Err (record { line = line; code = code })

abbrev pub run : ℕ → ℕ → List LineToken → State → Result (List RuleTree) Diag
run room last [] state = at_end last state
run room last (token ∷ tokens) state = go_on (run room last tokens) token.line (step room state token.line token.token)
