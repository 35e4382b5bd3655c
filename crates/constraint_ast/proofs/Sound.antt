-- What is read is spelled: for each state the tokens that complete it, and that a token leads there.
use Rattle.std.proofs.Common.{◌≡◌, ◌⊎◌, inl, inr, ℕ, zero, suc, List, [], ◌∷◌, ◌++◌, refl, ap, sym, subst, ◌∙◌, append_assoc, append-nil}
use Rattle.constraint_ast.specs.believed.Trees.{Tree, Trees, Leaf, Negated, End, More, all_of, any_of, RuleTree, IfThen, IfElse}
use Rattle.constraint_ast.specs.Trees.{added, joined}
use Rattle.constraint_ast.specs.believed.Trees as trees
use Rattle.constraint_ast.specs.believed.Grammar.{at, AreConjs, AreLiterals, AreRules, AreUnits, IsUnit, if_else, if_then, last_conj, last_literal, last_unit, like, negation}
use Rattle.constraint_ast.specs.believed.Grammar.{next_conj, next_literal, next_rule, next_unit, none_of, not_like, one_of, param_is, parens, plain, sign_term, signed, value_is}
use Rattle.constraint_ast.specs.declared.token.LineToken.{LineToken}
use Rattle.constraint_ast.specs.declared.token.RuleToken.{RuleToken}
use Rattle.constraint_ast.specs.declared.token.RuleToken.TheVariants.{Name, Literal, Relation, If, Then, Else, And, Or, Not, In, Like}
use Rattle.constraint_ast.specs.declared.token.RuleToken.TheVariants.{Sign, OpenParen, CloseParen, OpenBrace, CloseBrace, Comma, Semicolon}
use Rattle.constraint_ast.specs.declared.token.Sign as signs
use Rattle.constraint_ast.specs.declared.tree.RawRel.{RawRel}
use Rattle.constraint_ast.specs.declared.tree.RawLiteral.{RawLiteral}
use Rattle.constraint_ast.specs.declared.tree.RawLiteral.TheVariants.{Words, Number}
use Rattle.constraint_ast.specs.declared.tree.RawTerm.TheVariants as terms
use Rattle.constraint_ast.specs.Machine.{After, Around, Bad, Between, Done, InElse, InIf, InPlain, InThen, Itemed, Liked, Listed, Named, NamedNot, Need, Next}
use Rattle.constraint_ast.specs.Machine.{Opened, Outer, Paren, Part, Related, SignNamed, SignOpened, Signed, Spot, State, Step, Top, Within, after, begin, close}
use Rattle.constraint_ast.specs.Machine.{ended, finished, itemed, liked, listed, named, named_not, need, opened, related, sign_named, sign_opened, sign_word, step}
use Rattle.constraint_ast.proofs.Complete.{joined_added}

-- more units behind some, and more conjunctions
pub data UnitsTail (room : ℕ) : Trees → List LineToken → Trees → List LineToken → Type 0 where
  no_units : {alls : Trees} {to : List LineToken} → UnitsTail room alls to alls to
  and_units :
      {l : ℕ} {alls units : Trees} {tree : Tree} {next behind to : List LineToken}
      → IsUnit room next tree behind → UnitsTail room (added alls tree) behind units to → UnitsTail room alls (at l And ∷ next) units to

pub data ConjsTail (room : ℕ) : Trees → List LineToken → Trees → List LineToken → Type 0 where
  no_conjs : {anys : Trees} {to : List LineToken} → ConjsTail room anys to anys to
  or_conjs :
      {l : ℕ} {anys units parts : Trees} {tree : Tree} {next behind last to : List LineToken}
      → IsUnit room next tree behind → UnitsTail room (added End tree) behind units last → ConjsTail room (added anys (all_of units)) last parts to
      → ConjsTail room anys (at l Or ∷ next) parts to

pub record PredTail (room : ℕ) (anys alls : Trees) (from : List LineToken) (parts : Trees) (to : List LineToken) : Type 0 where
  pub units : Trees
  pub behind : List LineToken
  pub tail : UnitsTail room alls from units behind
  pub conjs : ConjsTail room (added anys (all_of units)) behind parts to

units_grown :
    {room : ℕ} {alls : Trees} {behind : List LineToken} {units : Trees} {to : List LineToken} → UnitsTail room alls behind units to → (before : Trees) (tree : Tree) (from : List LineToken)
    → alls ≡ added before tree → IsUnit room from tree behind → (parts : Trees) × AreUnits room from parts to × (units ≡ joined before parts)
units_grown no_units before tree from e unit = (More tree End, last_unit unit, e)
units_grown (and_units {alls = alls} {tree = tree} {next = next} unit tail) before first from e spelled =
    let grown = units_grown tail alls tree next refl unit in
    (More first grown.0, next_unit spelled grown.1, grown.2 ∙ (ap (λ front. joined front grown.0) e ∙ joined_added before first grown.0))

conjs_grown :
    {room : ℕ} {anys : Trees} {behind : List LineToken} {parts : Trees} {to : List LineToken} → ConjsTail room anys behind parts to → (before units : Trees) (from : List LineToken)
    → anys ≡ added before (all_of units) → AreUnits room from units behind → (others : Trees) × AreConjs room from others to × (parts ≡ joined before others)
conjs_grown no_conjs before units from e spelled = (More (all_of units) End, last_conj spelled, e)
conjs_grown (or_conjs {anys = anys} {tree = tree} {next = next} unit tail conjs) before first from e spelled =
    let units = units_grown tail End tree next refl unit in
    let grown = conjs_grown conjs anys units.0 next (ap (λ units. added anys (all_of units)) units.2) units.1 in
    (More (all_of first) grown.0, next_conj spelled grown.1, grown.2 ∙ (ap (λ front. joined front grown.0) e ∙ joined_added before (all_of first) grown.0))

pub pred_grown :
    {room : ℕ} {tree : Tree} {from behind to : List LineToken} {parts : Trees} → IsUnit room from tree behind → PredTail room End (added End tree) behind parts to → AreConjs room from parts to
pred_grown {room = room} {tree = tree} {from = from} {to = to} unit tail =
    let units = units_grown tail.tail End tree from refl unit in
    let grown = conjs_grown tail.conjs End units.0 from (ap (λ units. added End (all_of units)) units.2) units.1 in
    subst (λ parts. AreConjs room from parts to) (sym grown.2) grown.1

-- the end of a constraint, and the constraints behind it
pub record EndsRule (room : ℕ) (rule : RuleTree) (from : List LineToken) (rules : List RuleTree) : Type 0 where
  pub line : ℕ
  pub to : List LineToken
  pub rest : List RuleTree
  pub from_is : from ≡ at line Semicolon ∷ to
  pub rules_are : rules ≡ rule ∷ rest
  pub spelled : AreRules room to rest

-- a word, and a predicate behind it
pub record PredBehind (room : ℕ) (word : RuleToken) (from : List LineToken) (parts : Trees) (to : List LineToken) : Type 0 where
  pub line : ℕ
  pub next : List LineToken
  pub from_is : from ≡ at line word ∷ next
  pub spelled : AreConjs room next parts to

abbrev pub EndsThen : ℕ → ℕ → Tree → Tree → List LineToken → List RuleTree → Type 0
EndsThen room line premise tree from rules =
    EndsRule room (record { line = line; body = IfThen premise tree }) from rules
    ⊎ ((parts : Trees) × (to : List LineToken) × PredBehind room Else from parts to × EndsRule room (record { line = line; body = IfElse premise tree (any_of parts) }) to rules)

abbrev pub EndsSpot : ℕ → Spot → Tree → List LineToken → List RuleTree → Type 0
EndsSpot room (InPlain line) tree from rules = EndsRule room (record { line = line; body = trees.Plain tree }) from rules
EndsSpot room (InIf line) tree from rules = (parts : Trees) × (to : List LineToken) × PredBehind room Then from parts to × EndsThen room line tree (any_of parts) to rules
EndsSpot room (InThen line premise) tree from rules = EndsThen room line premise tree from rules
EndsSpot room (InElse line premise pred) tree from rules = EndsRule room (record { line = line; body = IfElse premise pred tree }) from rules

-- what completes the surroundings of a unit, and of a predicate
abbrev mutual
  pub EndsUnit : ℕ → Around → Tree → List LineToken → List RuleTree → Type 0
  EndsUnit room (Part left anys alls outer) tree from rules = (parts : Trees) × (to : List LineToken)
      × PredTail left anys (added alls tree) from parts to × EndsOuter room outer (any_of parts) to rules
  EndsUnit room (Within around) tree from rules = EndsUnit room around (Negated tree) from rules

  pub EndsOuter : ℕ → Outer → Tree → List LineToken → List RuleTree → Type 0
  EndsOuter room (Top spot) tree from rules = EndsSpot room spot tree from rules
  EndsOuter room (Paren around) tree from rules = (line : ℕ) × (to : List LineToken) × (from ≡ at line CloseParen ∷ to) × EndsUnit room around tree to rules

-- the rest of a unit
pub data OpensList : List LineToken → List RawLiteral → List LineToken → Type 0 where
  opens_list : {l : ℕ} {from to : List LineToken} {xs : List RawLiteral} → AreLiterals from xs to → OpensList (at l OpenBrace ∷ from) xs to

pub data LiteralsTail : List LineToken → List RawLiteral → List LineToken → Type 0 where
  closes : {l : ℕ} {to : List LineToken} → LiteralsTail (at l CloseBrace ∷ to) [] to
  goes : {l : ℕ} {from to : List LineToken} {xs : List RawLiteral} → AreLiterals from xs to → LiteralsTail (at l Comma ∷ from) xs to

pub data PatternTail : List LineToken → List ℕ → List LineToken → Type 0 where
  pattern : {l : ℕ} {text : List ℕ} {to : List LineToken} → PatternTail (at l (Literal (Words text)) ∷ to) text to

abbrev pub Ends : ℕ → State → List LineToken → List RuleTree → Type 0
Ends room Between from rules = AreRules room from rules
Ends room (Need left around) from rules = (tree : Tree) × (to : List LineToken) × IsUnit left from tree to × EndsUnit room around tree to rules
Ends room (Named left around line name) from rules = (tree : Tree) × (to : List LineToken) × IsUnit left (at line (Name name) ∷ from) tree to × EndsUnit room around tree to rules
Ends room (NamedNot around line name) from rules =
    (tree : Tree) × (to : List LineToken) × ((left k : ℕ) → IsUnit (suc left) (at line (Name name) ∷ at k Not ∷ from) (Negated tree) to) × EndsUnit room around tree to rules
Ends room (Related around line name rel) from rules =
    (tree : Tree) × (to : List LineToken) × ((left k : ℕ) → IsUnit left (at line (Name name) ∷ at k (Relation rel) ∷ from) tree to) × EndsUnit room around tree to rules
Ends room (Listed around line name) from rules = (xs : List RawLiteral) × (to : List LineToken) × OpensList from xs to × EndsUnit room around (Leaf line (terms.OneOf name xs)) to rules
Ends room (Opened around line name ys) from rules = (xs : List RawLiteral) × (to : List LineToken) × AreLiterals from xs to × EndsUnit room around (Leaf line (terms.OneOf name (ys ++ xs))) to rules
Ends room (Itemed around line name ys) from rules = (xs : List RawLiteral) × (to : List LineToken)
    × LiteralsTail from xs to × EndsUnit room around (Leaf line (terms.OneOf name (ys ++ xs))) to rules
Ends room (Liked around line name) from rules = (text : List ℕ) × (to : List LineToken) × PatternTail from text to × EndsUnit room around (Leaf line (terms.Like name text)) to rules
Ends room (Signed around line sign) from rules =
    (tree : Tree) × (to : List LineToken) × ((left : ℕ) → IsUnit left (at line (Sign sign) ∷ from) tree to) × EndsUnit room around tree to rules
Ends room (SignOpened around line sign) from rules =
    (tree : Tree) × (to : List LineToken) × ((left k : ℕ) → IsUnit left (at line (Sign sign) ∷ at k OpenParen ∷ from) tree to) × EndsUnit room around tree to rules
Ends room (SignNamed around line sign name) from rules =
    (tree : Tree) × (to : List LineToken) × ((left k i : ℕ) → IsUnit left (at line (Sign sign) ∷ at k OpenParen ∷ at i (Name name) ∷ from) tree to) × EndsUnit room around tree to rules
Ends room (After left anys alls outer) from rules = (parts : Trees) × (to : List LineToken) × PredTail left anys alls from parts to × EndsOuter room outer (any_of parts) to rules

abbrev pub EndsStep : ℕ → Step → List LineToken → List RuleTree → Type 0
EndsStep room (Next state) from rules = Ends room state from rules
EndsStep room (Done rule) from rules = (rest : List RuleTree) × (rules ≡ rule ∷ rest) × AreRules room from rest
EndsStep room (Bad code) from rules = ⊥

-- the surroundings of a unit that is read
pub closed : (room : ℕ) (around : Around) (tree : Tree) (from : List LineToken) (rules : List RuleTree) → Ends room (close around tree) from rules → EndsUnit room around tree from rules
closed room (Part left anys alls outer) tree from rules ends = ends
closed room (Within around) tree from rules ends = closed room around (Negated tree) from rules ends

-- a predicate at its beginning
module _ (room left : ℕ) (outer : Outer) (from : List LineToken) (rules : List RuleTree) where
  pub whole_pred : Ends room (Need left (Part left End End outer)) from rules
      → (parts : Trees) × (to : List LineToken) × AreConjs left from parts to × EndsOuter room outer (any_of parts) to rules
  whole_pred ends = (ends.3.0, ends.3.1, pred_grown ends.2 ends.3.2, ends.3.3)

list_spelled :
    {left line k : ℕ} {name : List ℕ} {from to : List LineToken} {xs : List RawLiteral} → OpensList from xs to
    → IsUnit left (at line (Name name) ∷ at k In ∷ from) (Leaf line (terms.OneOf name xs)) to
list_spelled (opens_list literals) = one_of literals

no_list_spelled :
    {left line k i : ℕ} {name : List ℕ} {from to : List LineToken} {xs : List RawLiteral} → OpensList from xs to
    → IsUnit (suc left) (at line (Name name) ∷ at k Not ∷ at i In ∷ from) (Negated (Leaf line (terms.OneOf name xs))) to
no_list_spelled (opens_list literals) = none_of literals

pattern_spelled :
    {left line k : ℕ} {name text : List ℕ} {from to : List LineToken} → PatternTail from text to
    → IsUnit left (at line (Name name) ∷ at k Like ∷ from) (Leaf line (terms.Like name text)) to
pattern_spelled pattern = like

no_pattern_spelled :
    {left line k i : ℕ} {name text : List ℕ} {from to : List LineToken} → PatternTail from text to
    → IsUnit (suc left) (at line (Name name) ∷ at k Not ∷ at i Like ∷ from) (Negated (Leaf line (terms.Like name text))) to
no_pattern_spelled pattern = not_like

-- a token leads from a state to what completes it
module _ (room : ℕ) (tokens : List LineToken) (rules : List RuleTree) where
  if_spelled : (line : ℕ) → Ends room (Need room (Part room End End (Top (InIf line)))) tokens rules → AreRules room (at line If ∷ tokens) rules
  if_spelled line ends = at_then (whole_pred room room (Top (InIf line)) tokens rules ends)
    where
      moved : {word : RuleToken} {from : List LineToken} {parts : Trees} {k : ℕ} {next : List LineToken}
          → from ≡ at k word ∷ next → AreConjs room tokens parts from → AreConjs room tokens parts (at k word ∷ next)
      moved {parts = parts} e spelled = subst (λ from. AreConjs room tokens parts from) e spelled

      at_end : (premise parts : Trees) (k : ℕ) (next to : List LineToken) → AreConjs room tokens premise (at k Then ∷ next) → AreConjs room next parts to
          → EndsThen room line (any_of premise) (any_of parts) to rules → AreRules room (at line If ∷ tokens) rules
      at_end premise parts k next to spelled then (inl last) =
          subst (λ rules. AreRules room (at line If ∷ tokens) rules) (sym last.rules_are)
          (next_rule (if_then spelled (subst (λ to. AreConjs room next parts to) last.from_is then)) last.spelled)
      at_end premise parts k next to spelled then (inr (others, end, behind, last)) =
          subst (λ rules. AreRules room (at line If ∷ tokens) rules) (sym last.rules_are)
          (next_rule
          (if_else spelled (subst (λ to. AreConjs room next parts to) behind.from_is then) (subst (λ to. AreConjs room behind.next others to) last.from_is behind.spelled))
          last.spelled)

      at_then : ((premise : Trees) × (to : List LineToken) × AreConjs room tokens premise to × EndsOuter room (Top (InIf line)) (any_of premise) to rules)
          → AreRules room (at line If ∷ tokens) rules
      at_then (premise, from, spelled, (parts, to, behind, ends)) =
          at_end premise parts behind.line behind.next to (moved {word = Then} behind.from_is spelled) behind.spelled ends

  plain_spelled : (first : LineToken) → Ends room (Need room (Part room End End (Top (InPlain first.line)))) (first ∷ tokens) rules → AreRules room (first ∷ tokens) rules
  plain_spelled first ends =
      let pred = whole_pred room room (Top (InPlain first.line)) (first ∷ tokens) rules ends in
      let last = pred.3 in
      subst (λ rules. AreRules room (first ∷ tokens) rules) (sym last.rules_are)
      (next_rule (plain (subst (λ to. AreConjs room (first ∷ tokens) pred.0 to) last.from_is pred.2)) last.spelled)

  at_need : (left : ℕ) (around : Around) (line : ℕ) (token : RuleToken)
      → EndsStep room (need left around line token) tokens rules → Ends room (Need left around) (at line token ∷ tokens) rules
  at_need left around line (Name name) ends = ends
  at_need left around line (Sign sign) ends = (ends.0, ends.1, ends.2 left, ends.3)
  at_need zero around line Not ends = absurd ends
  at_need (suc left) around line Not ends = (Negated ends.0, ends.1, negation ends.2, ends.3)
  at_need zero around line OpenParen ends = absurd ends
  at_need (suc left) around line OpenParen ends =
      let pred = whole_pred room left (Paren around) tokens rules ends in
      (any_of pred.0, pred.3.1, parens (subst (λ to. AreConjs left tokens pred.0 to) pred.3.2 pred.2), pred.3.3)
  at_need left around line token ends = absurd ends

  at_begin : (line : ℕ) (token : RuleToken) → EndsStep room (begin room line token) tokens rules → AreRules room (at line token ∷ tokens) rules
  at_begin line If ends = if_spelled line ends
  at_begin line token ends = plain_spelled (at line token) (at_need room (Part room End End (Top (InPlain line))) line token ends)

  at_named :
      (left : ℕ) (around : Around) (at_line : ℕ) (name : List ℕ) (line : ℕ) (token : RuleToken) → EndsStep room (named left around at_line name token) tokens rules
      → Ends room (Named left around at_line name) (at line token ∷ tokens) rules
  at_named left around at_line name line (Relation rel) ends = (ends.0, ends.1, ends.2 left line, ends.3)
  at_named left around at_line name line In ends = (Leaf at_line (terms.OneOf name ends.0), ends.1, list_spelled ends.2, ends.3)
  at_named left around at_line name line Like ends = (Leaf at_line (terms.Like name ends.0), ends.1, pattern_spelled ends.2, ends.3)
  at_named zero around at_line name line Not ends = absurd ends
  at_named (suc left) around at_line name line Not ends = (Negated ends.0, ends.1, ends.2 left line, ends.3)
  at_named left around at_line name line token ends = absurd ends

  at_named_not :
      (around : Around) (at_line : ℕ) (name : List ℕ) (line : ℕ) (token : RuleToken) → EndsStep room (named_not around at_line name token) tokens rules
      → Ends room (NamedNot around at_line name) (at line token ∷ tokens) rules
  at_named_not around at_line name line In ends = (Leaf at_line (terms.OneOf name ends.0), ends.1, (λ left k. no_list_spelled ends.2), ends.3)
  at_named_not around at_line name line Like ends = (Leaf at_line (terms.Like name ends.0), ends.1, (λ left k. no_pattern_spelled ends.2), ends.3)
  at_named_not around at_line name line token ends = absurd ends

  at_related :
      (around : Around) (at_line : ℕ) (name : List ℕ) (rel : RawRel) (line : ℕ) (token : RuleToken) → EndsStep room (related around at_line name rel token) tokens rules
      → Ends room (Related around at_line name rel) (at line token ∷ tokens) rules
  at_related around at_line name rel line (Literal x) ends =
      let tree : Tree = Leaf at_line (terms.ValueIs name rel x) in
      (tree, tokens, (λ left k. value_is), closed room around tree tokens rules ends)
  at_related around at_line name rel line (Name other) ends =
      let tree : Tree = Leaf at_line (terms.ParamIs name rel other) in
      (tree, tokens, (λ left k. param_is), closed room around tree tokens rules ends)
  at_related around at_line name rel line token ends = absurd ends

  at_listed :
      (around : Around) (at_line : ℕ) (name : List ℕ) (line : ℕ) (token : RuleToken) → EndsStep room (listed around at_line name token) tokens rules
      → Ends room (Listed around at_line name) (at line token ∷ tokens) rules
  at_listed around at_line name line OpenBrace ends = (ends.0, ends.1, opens_list ends.2, ends.3)
  at_listed around at_line name line token ends = absurd ends

  at_opened :
      (around : Around) (at_line : ℕ) (name : List ℕ) (ys : List RawLiteral) (line : ℕ) (token : RuleToken) → EndsStep room (opened around at_line name ys token) tokens rules
      → Ends room (Opened around at_line name ys) (at line token ∷ tokens) rules
  at_opened around at_line name ys line (Literal x) (xs, to, tail, ends) =
      (x ∷ xs, to, longer tail, subst (λ zs. EndsUnit room around (Leaf at_line (terms.OneOf name zs)) to rules) (append_assoc ys (x ∷ []) xs) ends)
    where
      longer : {from to : List LineToken} {xs : List RawLiteral} → LiteralsTail from xs to → AreLiterals (at line (Literal x) ∷ from) (x ∷ xs) to
      longer closes = last_literal
      longer (goes literals) = next_literal literals
  at_opened around at_line name ys line token ends = absurd ends

  at_itemed :
      (around : Around) (at_line : ℕ) (name : List ℕ) (ys : List RawLiteral) (line : ℕ) (token : RuleToken) → EndsStep room (itemed around at_line name ys token) tokens rules
      → Ends room (Itemed around at_line name ys) (at line token ∷ tokens) rules
  at_itemed around at_line name ys line Comma ends = (ends.0, ends.1, goes ends.2, ends.3)
  at_itemed around at_line name ys line CloseBrace ends = (
    [],
    tokens,
    closes,
    subst (λ zs. EndsUnit room around (Leaf at_line (terms.OneOf name zs)) tokens rules)
        (sym (append-nil ys)) (closed room around (Leaf at_line (terms.OneOf name ys)) tokens rules ends),
  )
  at_itemed around at_line name ys line token ends = absurd ends

  at_liked :
      (around : Around) (at_line : ℕ) (name : List ℕ) (line : ℕ) (token : RuleToken) → EndsStep room (liked around at_line name token) tokens rules
      → Ends room (Liked around at_line name) (at line token ∷ tokens) rules
  at_liked around at_line name line (Literal (Words text)) ends = (text, tokens, pattern, closed room around (Leaf at_line (terms.Like name text)) tokens rules ends)
  at_liked around at_line name line (Literal (Number n)) ends = absurd ends
  at_liked around at_line name line token ends = absurd ends

  at_sign_word :
      (around : Around) (at_line : ℕ) (sign : signs.Sign) (line : ℕ) (token : RuleToken) → EndsStep room (sign_word around at_line sign token) tokens rules
      → Ends room (Signed around at_line sign) (at line token ∷ tokens) rules
  at_sign_word around at_line sign line OpenParen ends = (ends.0, ends.1, (λ left. ends.2 left line), ends.3)
  at_sign_word around at_line sign line token ends = absurd ends

  at_sign_opened :
      (around : Around) (at_line : ℕ) (sign : signs.Sign) (line : ℕ) (token : RuleToken) → EndsStep room (sign_opened around at_line sign token) tokens rules
      → Ends room (SignOpened around at_line sign) (at line token ∷ tokens) rules
  at_sign_opened around at_line sign line (Name name) ends = (ends.0, ends.1, (λ left k. ends.2 left k line), ends.3)
  at_sign_opened around at_line sign line token ends = absurd ends

  at_sign_named :
      (around : Around) (at_line : ℕ) (sign : signs.Sign) (name : List ℕ) (line : ℕ) (token : RuleToken) → EndsStep room (sign_named around at_line sign name token) tokens rules
      → Ends room (SignNamed around at_line sign name) (at line token ∷ tokens) rules
  at_sign_named around at_line sign name line CloseParen ends =
      let tree : Tree = Leaf at_line (sign_term sign name) in
      (tree, tokens, (λ left k i. signed), closed room around tree tokens rules ends)
  at_sign_named around at_line sign name line token ends = absurd ends

  at_ended : (spot : Spot) (tree : Tree) (line : ℕ) (token : RuleToken) → EndsStep room (ended room spot tree token) tokens rules → EndsSpot room spot tree (at line token ∷ tokens) rules
  at_ended (InPlain at_line) tree line Semicolon (rest, are, spelled) = record { line = line; to = tokens; rest = rest; from_is = refl; rules_are = are; spelled = spelled }
  at_ended (InPlain at_line) tree line token ends = absurd ends
  at_ended (InIf at_line) tree line Then ends =
      let pred = whole_pred room room (Top (InThen at_line tree)) tokens rules ends in
      (pred.0, pred.1, record { line = line; next = tokens; from_is = refl; spelled = pred.2 }, pred.3)
  at_ended (InIf at_line) tree line token ends = absurd ends
  at_ended (InThen at_line premise) tree line Semicolon (rest, are, spelled) = inl (record { line = line; to = tokens; rest = rest; from_is = refl; rules_are = are; spelled = spelled })
  at_ended (InThen at_line premise) tree line Else ends =
      let pred = whole_pred room room (Top (InElse at_line premise tree)) tokens rules ends in
      inr (pred.0, pred.1, record { line = line; next = tokens; from_is = refl; spelled = pred.2 }, pred.3)
  at_ended (InThen at_line premise) tree line token ends = absurd ends
  at_ended (InElse at_line premise pred) tree line Semicolon (rest, are, spelled) = record { line = line; to = tokens; rest = rest; from_is = refl; rules_are = are; spelled = spelled }
  at_ended (InElse at_line premise pred) tree line token ends = absurd ends

  at_finished : (outer : Outer) (tree : Tree) (line : ℕ) (token : RuleToken)
      → EndsStep room (finished room outer tree token) tokens rules → EndsOuter room outer tree (at line token ∷ tokens) rules
  at_finished (Top spot) tree line token ends = at_ended spot tree line token ends
  at_finished (Paren around) tree line CloseParen ends = (line, tokens, refl, closed room around tree tokens rules ends)
  at_finished (Paren around) tree line token ends = absurd ends

  at_after :
      (left : ℕ) (anys alls : Trees) (outer : Outer) (line : ℕ) (token : RuleToken) → EndsStep room (after room left anys alls outer token) tokens rules
      → Ends room (After left anys alls outer) (at line token ∷ tokens) rules
  at_after left anys alls outer line And (tree, behind, unit, (parts, to, tail, ends)) =
      (parts, to, record { units = tail.units; behind = tail.behind; tail = and_units unit tail.tail; conjs = tail.conjs }, ends)
  at_after left anys alls outer line Or (tree, behind, unit, (parts, to, tail, ends)) =
      (parts, to, record { units = alls; behind = at line Or ∷ tokens; tail = no_units; conjs = or_conjs unit tail.tail tail.conjs }, ends)
  at_after left anys alls outer line token ends = (
    added anys (all_of alls),
    at line token ∷ tokens,
    record { units = alls; behind = at line token ∷ tokens; tail = no_units; conjs = no_conjs },
    at_finished outer (any_of (added anys (all_of alls))) line token ends,
  )

  pub led : (state : State) (line : ℕ) (token : RuleToken) → EndsStep room (step room state line token) tokens rules → Ends room state (at line token ∷ tokens) rules
  led Between line token ends = at_begin line token ends
  led (Need left around) line token ends = at_need left around line token ends
  led (Named left around at_line name) line token ends = at_named left around at_line name line token ends
  led (NamedNot around at_line name) line token ends = at_named_not around at_line name line token ends
  led (Related around at_line name rel) line token ends = at_related around at_line name rel line token ends
  led (Listed around at_line name) line token ends = at_listed around at_line name line token ends
  led (Opened around at_line name xs) line token ends = at_opened around at_line name xs line token ends
  led (Itemed around at_line name xs) line token ends = at_itemed around at_line name xs line token ends
  led (Liked around at_line name) line token ends = at_liked around at_line name line token ends
  led (Signed around at_line sign) line token ends = at_sign_word around at_line sign line token ends
  led (SignOpened around at_line sign) line token ends = at_sign_opened around at_line sign line token ends
  led (SignNamed around at_line sign name) line token ends = at_sign_named around at_line sign name line token ends
  led (After left anys alls outer) line token ends = at_after left anys alls outer line token ends
