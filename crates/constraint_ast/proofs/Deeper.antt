-- With one more room a token leads to the same state with one more room, but where room was wanting.
use Rattle.std.proofs.Common.{◌≡◌, ℕ, zero, suc, refl}
use Rattle.model_lex.specs.declared.diag.DiagCode.TheVariants.{TooDeep}
use Rattle.constraint_ast.specs.believed.Trees.{Tree, Negated}
use Rattle.constraint_ast.specs.declared.token.RuleToken.{RuleToken}
use Rattle.constraint_ast.specs.declared.token.RuleToken.TheVariants.{Name, Literal, Relation, If, Then, Else, And, Or, Not, In, Like}
use Rattle.constraint_ast.specs.declared.token.RuleToken.TheVariants.{Sign, OpenParen, CloseParen, OpenBrace, CloseBrace, Comma, Semicolon}
use Rattle.constraint_ast.specs.declared.tree.RawLiteral.TheVariants.{Words, Number}
use Rattle.constraint_ast.specs.Machine.{After, Around, Bad, Between, Done, InElse, InIf, InPlain, InThen, Itemed, Liked, Listed, Named, NamedNot, Need, Next, Opened, Outer}
use Rattle.constraint_ast.specs.Machine.{Paren, Part, Related, SignNamed, SignOpened, Signed, Spot, State, Step, Top, Within, begin, close, ended, finished, need, step}

abbrev mutual
  pub deeper : Around → Around
  deeper (Part left anys alls outer) = Part (suc left) anys alls (deeper_outer outer)
  deeper (Within around) = Within (deeper around)

  pub deeper_outer : Outer → Outer
  deeper_outer (Top spot) = Top spot
  deeper_outer (Paren around) = Paren (deeper around)

abbrev pub deeper_state : State → State
deeper_state Between = Between
deeper_state (Need left around) = Need (suc left) (deeper around)
deeper_state (Named left around line name) = Named (suc left) (deeper around) line name
deeper_state (NamedNot around line name) = NamedNot (deeper around) line name
deeper_state (Related around line name rel) = Related (deeper around) line name rel
deeper_state (Listed around line name) = Listed (deeper around) line name
deeper_state (Opened around line name xs) = Opened (deeper around) line name xs
deeper_state (Itemed around line name xs) = Itemed (deeper around) line name xs
deeper_state (Liked around line name) = Liked (deeper around) line name
deeper_state (Signed around line sign) = Signed (deeper around) line sign
deeper_state (SignOpened around line sign) = SignOpened (deeper around) line sign
deeper_state (SignNamed around line sign name) = SignNamed (deeper around) line sign name
deeper_state (After left anys alls outer) = After (suc left) anys alls (deeper_outer outer)

-- how a step with one more room answers to one without
abbrev pub DeeperStep : Step → Step → Type 0
DeeperStep (Next state) deep = deep ≡ Next (deeper_state state)
DeeperStep (Done rule) deep = deep ≡ Done rule
DeeperStep (Bad TooDeep) deep = (state : State) × (deep ≡ Next state)
DeeperStep (Bad code) deep = deep ≡ Bad code

closed_deeper : (around : Around) (tree : Tree) → Next (close (deeper around) tree) ≡ Next (deeper_state (close around tree))
closed_deeper (Part left anys alls outer) tree = refl
closed_deeper (Within around) tree = closed_deeper around (Negated tree)

need_deeper : (left : ℕ) (around : Around) (line : ℕ) (token : RuleToken) → DeeperStep (need left around line token) (need (suc left) (deeper around) line token)
need_deeper left around line (Name name) = refl
need_deeper left around line (Sign sign) = refl
need_deeper zero around line Not = (_, refl)
need_deeper (suc left) around line Not = refl
need_deeper zero around line OpenParen = (_, refl)
need_deeper (suc left) around line OpenParen = refl
need_deeper left around line token = refl

begin_deeper : (room line : ℕ) (token : RuleToken) → DeeperStep (begin room line token) (begin (suc room) line token)
begin_deeper room line If = refl
begin_deeper room line (Name name) = refl
begin_deeper room line (Sign sign) = refl
begin_deeper zero line Not = (_, refl)
begin_deeper (suc room) line Not = refl
begin_deeper zero line OpenParen = (_, refl)
begin_deeper (suc room) line OpenParen = refl
begin_deeper room line token = refl

ended_deeper : (room : ℕ) (spot : Spot) (tree : Tree) (token : RuleToken) → DeeperStep (ended room spot tree token) (ended (suc room) spot tree token)
ended_deeper room (InPlain line) tree Semicolon = refl
ended_deeper room (InPlain line) tree token = refl
ended_deeper room (InIf line) tree Then = refl
ended_deeper room (InIf line) tree token = refl
ended_deeper room (InThen line premise) tree Semicolon = refl
ended_deeper room (InThen line premise) tree Else = refl
ended_deeper room (InThen line premise) tree token = refl
ended_deeper room (InElse line premise pred) tree Semicolon = refl
ended_deeper room (InElse line premise pred) tree token = refl

finished_deeper : (room : ℕ) (outer : Outer) (tree : Tree) (token : RuleToken) → DeeperStep (finished room outer tree token) (finished (suc room) (deeper_outer outer) tree token)
finished_deeper room (Top spot) tree token = ended_deeper room spot tree token
finished_deeper room (Paren around) tree CloseParen = closed_deeper around tree
finished_deeper room (Paren around) tree token = refl

pub step_deeper : (room : ℕ) (state : State) (line : ℕ) (token : RuleToken) → DeeperStep (step room state line token) (step (suc room) (deeper_state state) line token)
step_deeper room Between line token = begin_deeper room line token
step_deeper room (Need left around) line token = need_deeper left around line token
step_deeper room (Named left around at name) line (Relation rel) = refl
step_deeper room (Named left around at name) line In = refl
step_deeper room (Named left around at name) line Like = refl
step_deeper room (Named zero around at name) line Not = (_, refl)
step_deeper room (Named (suc left) around at name) line Not = refl
step_deeper room (Named left around at name) line token = refl
step_deeper room (NamedNot around at name) line In = refl
step_deeper room (NamedNot around at name) line Like = refl
step_deeper room (NamedNot around at name) line token = refl
step_deeper room (Related around at name rel) line (Literal x) = closed_deeper around _
step_deeper room (Related around at name rel) line (Name other) = closed_deeper around _
step_deeper room (Related around at name rel) line token = refl
step_deeper room (Listed around at name) line OpenBrace = refl
step_deeper room (Listed around at name) line token = refl
step_deeper room (Opened around at name xs) line (Literal x) = refl
step_deeper room (Opened around at name xs) line token = refl
step_deeper room (Itemed around at name xs) line Comma = refl
step_deeper room (Itemed around at name xs) line CloseBrace = closed_deeper around _
step_deeper room (Itemed around at name xs) line token = refl
step_deeper room (Liked around at name) line (Literal (Words text)) = closed_deeper around _
step_deeper room (Liked around at name) line (Literal (Number n)) = refl
step_deeper room (Liked around at name) line token = refl
step_deeper room (Signed around at sign) line OpenParen = refl
step_deeper room (Signed around at sign) line token = refl
step_deeper room (SignOpened around at sign) line (Name name) = refl
step_deeper room (SignOpened around at sign) line token = refl
step_deeper room (SignNamed around at sign name) line CloseParen = closed_deeper around _
step_deeper room (SignNamed around at sign name) line token = refl
step_deeper room (After left anys alls outer) line And = refl
step_deeper room (After left anys alls outer) line Or = refl
step_deeper room (After left anys alls outer) line token = finished_deeper room outer _ token
