-- What the functions of the parser read, in the words of the reading token by token.
use Rattle.std.specs.Prelude.{◌≡◌, ℕ, Bool, true, false, List, [], ◌∷◌, ◌++◌, Err}
use Rattle.model_lex.specs.declared.diag.Diag.{Diag}
use Rattle.model_lex.specs.declared.fault.ModelFault.{ModelFault}
use Rattle.model_lex.specs.declared.fault.ModelFault.TheVariants.{Bad, BadRule, Limit, NoMemory}
use Rattle.constraint_ast.specs.believed.Trees.{Tree, Trees, BodyTree, Leaf, End, all_of, any_of}
use Rattle.constraint_ast.specs.Trees.{added}
use Rattle.constraint_ast.specs.believed.Grammar.{most_open}
use Rattle.constraint_ast.specs.Machine.{After, Around, Between, InIf, Itemed, Need, Opened, Outer, Part, Spot, State, Top, close, run, with_rule}
use Rattle.constraint_ast.specs.declared.token.LineToken.{LineToken}
use Rattle.constraint_ast.specs.declared.token.RuleToken.{RuleToken}
use Rattle.constraint_ast.specs.declared.token.RuleToken.TheVariants.{If, And, Or}
use Rattle.constraint_ast.specs.declared.tree.RawLiteral.{RawLiteral}
use Rattle.constraint_ast.specs.declared.tree.RawTerm.TheVariants.{OneOf}

-- a fact of the refusal of a constraint, where memory isn't wanting
abbrev pub IfRefused : ModelFault → (Diag → Type 0) → Type 0
IfRefused (BadRule diag) P = P diag
IfRefused (Bad diag) P = ⊥
IfRefused (Limit limit count) P = ⊥
IfRefused NoMemory P = Unit {0}

-- from a state inside a unit its rest is read as a tree, or refused
abbrev pub ReadsUnit : ℕ → List LineToken → (Around → State) → Tree → List LineToken → Type 0
ReadsUnit last from start tree to = (around : Around) → run most_open last from (start around) ≡ run most_open last to (close around tree)

abbrev pub RefusesUnit : ℕ → List LineToken → (Around → State) → ModelFault → Type 0
RefusesUnit last from start fault = IfRefused fault (λ diag. (around : Around) → run most_open last from (start around) ≡ Err diag)

-- whether AND, or OR, stands first
abbrev is_and : RuleToken → Bool
is_and And = true
is_and token = false

abbrev is_or : RuleToken → Bool
is_or Or = true
is_or token = false

abbrev pub begins_and : List LineToken → Bool
begins_and [] = false
begins_and (token ∷ tokens) = is_and token.token

abbrev pub begins_or : List LineToken → Bool
begins_or [] = false
begins_or (token ∷ tokens) = is_or token.token

-- AND, or OR, leads behind a unit to the next
abbrev pub GoesOnAnd : List LineToken → List LineToken → Type 0
GoesOnAnd from to =
    (last room : ℕ) (anys alls : Trees) (outer : Outer) → run most_open last from (After room anys alls outer)
    ≡ run most_open last to (Need room (Part room anys alls outer))

abbrev pub GoesOnOr : List LineToken → List LineToken → Type 0
GoesOnOr from to =
    (last room : ℕ) (anys alls : Trees) (outer : Outer)
    → run most_open last from (After room anys alls outer) ≡ run most_open last to (Need room (Part room (added anys (all_of alls)) End outer))

-- units joined by AND are read as a tree
pub record ReadsUnits (last room : ℕ) (from : List LineToken) (tree : Tree) (to : List LineToken) : Type 0 where
  pub units : Trees
  pub same : all_of units ≡ tree
  pub runs : (anys : Trees) (outer : Outer) → run most_open last from (Need room (Part room anys End outer)) ≡ run most_open last to (After room anys units outer)
  pub no_and : begins_and to ≡ false

abbrev pub RefusesUnits : ℕ → ℕ → List LineToken → ModelFault → Type 0
RefusesUnits last room from fault = IfRefused fault (λ diag. (anys : Trees) (outer : Outer)
    → run most_open last from (Need room (Part room anys End outer)) ≡ Err diag)

-- a predicate is read as a tree
pub record ReadsPred (last room : ℕ) (from : List LineToken) (tree : Tree) (to : List LineToken) : Type 0 where
  pub front : Trees
  pub units : Trees
  pub same : any_of (added front (all_of units)) ≡ tree
  pub runs : (outer : Outer) → run most_open last from (Need room (Part room End End outer)) ≡ run most_open last to (After room front units outer)
  pub no_and : begins_and to ≡ false
  pub no_or : begins_or to ≡ false

abbrev pub RefusesPred : ℕ → ℕ → List LineToken → ModelFault → Type 0
RefusesPred last room from fault = IfRefused fault (λ diag. (outer : Outer) → run most_open last from (Need room (Part room End End outer)) ≡ Err diag)

-- up to a predicate of a constraint
abbrev pub before_pred : Spot → State
before_pred spot = Need most_open (Part most_open End End (Top spot))

-- the rest of a constraint is read as a body
abbrev pub ReadsBody : ℕ → List LineToken → (ℕ → State) → BodyTree → List LineToken → Type 0
ReadsBody last from start body to =
    (line : ℕ) → run most_open last from (start line) ≡ with_rule (record { line = line; body = body }) (run most_open last to Between)

abbrev pub RefusesBody : ℕ → List LineToken → (ℕ → State) → ModelFault → Type 0
RefusesBody last from start fault = IfRefused fault (λ diag. (line : ℕ) → run most_open last from (start line) ≡ Err diag)

-- the next literal of a list is read, and the rest of a list
abbrev pub ReadsLiteral : ℕ → List LineToken → RawLiteral → List LineToken → Type 0
ReadsLiteral last from x to =
    (around : Around) (line : ℕ) (name : List ℕ) (xs : List RawLiteral) → run most_open last from (Opened around line name xs)
    ≡ run most_open last to (Itemed around line name (xs ++ x ∷ []))

abbrev pub ReadsLiterals : ℕ → List LineToken → List RawLiteral → List LineToken → Type 0
ReadsLiterals last from xs to =
    (around : Around) (line : ℕ) (name : List ℕ) → run most_open last from (Opened around line name [])
    ≡ run most_open last to (close around (Leaf line (OneOf name xs)))

abbrev pub RefusesLiteral : ℕ → List LineToken → ModelFault → Type 0
RefusesLiteral last from fault =
    IfRefused fault (λ diag. (around : Around) (line : ℕ) (name : List ℕ) (xs : List RawLiteral)
    → run most_open last from (Opened around line name xs) ≡ Err diag)

abbrev pub RefusesLiterals : ℕ → List LineToken → ModelFault → Type 0
RefusesLiterals last from fault = IfRefused fault (λ diag. (around : Around) (line : ℕ) (name : List ℕ)
    → run most_open last from (Opened around line name []) ≡ Err diag)

-- whether IF stands first
abbrev pub is_if : RuleToken → Bool
is_if If = true
is_if token = false

abbrev pub begins_if : List LineToken → Bool
begins_if [] = false
begins_if (token ∷ tokens) = is_if token.token

-- the line of the first token
abbrev pub first_line : List LineToken → ℕ
first_line [] = 0
first_line (token ∷ tokens) = token.line

-- IF leads into its predicate
abbrev pub GoesOnIf : List LineToken → List LineToken → Type 0
GoesOnIf from to = (last : ℕ) → run most_open last from Between ≡ run most_open last to (before_pred (InIf (first_line from)))

-- a constraint is read with a body
abbrev pub ReadsRule : ℕ → List LineToken → BodyTree → List LineToken → Type 0
ReadsRule last from body to = run most_open last from Between ≡ with_rule (record { line = first_line from; body = body }) (run most_open last to Between)

abbrev pub RefusesRules : ℕ → List LineToken → ModelFault → Type 0
RefusesRules last from fault = IfRefused fault (λ diag. run most_open last from Between ≡ Err diag)
