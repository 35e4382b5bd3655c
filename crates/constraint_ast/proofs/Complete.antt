-- What the grammar spells is read.
use Rattle.std.proofs.Common.{◌≡◌, ℕ, false, List, [], ◌∷◌, ◌++◌, ◌<◌, length, arith, refl, ap, ◌∙◌, append_assoc}
use Rattle.std.specs.Prelude.{Result, Ok, Err}
use Rattle.model_lex.specs.declared.diag.Diag.{Diag}
use Rattle.constraint_ast.specs.believed.Trees.{Tree, Trees, Leaf, End, More, all_of, any_of, RuleTree, IfThen, IfElse}
use Rattle.constraint_ast.specs.Trees.{added, joined}
use Rattle.constraint_ast.specs.believed.Trees as trees
use Rattle.constraint_ast.specs.believed.Grammar.{AreConjs, AreLiterals, AreRules, AreUnits, IsRule, IsUnit, if_else, if_then, last_conj, last_literal, last_unit, like, negation}
use Rattle.constraint_ast.specs.believed.Grammar.{next_conj, next_literal, next_rule, next_unit, no_rule, none_of, not_like, one_of, param_is, parens, plain, signed, value_is}
use Rattle.constraint_ast.specs.Reading.{begins_if, first_line, is_if}
use Rattle.constraint_ast.specs.declared.token.LineToken.{LineToken}
use Rattle.constraint_ast.specs.declared.token.RuleToken.{RuleToken}
use Rattle.constraint_ast.specs.declared.token.RuleToken.TheVariants.{If}
use Rattle.constraint_ast.specs.declared.tree.RawLiteral.{RawLiteral}
use Rattle.constraint_ast.specs.declared.tree.RawTerm.TheVariants.{OneOf}
use Rattle.constraint_ast.specs.Machine.{After, Around, Between, InElse, InIf, InPlain, InThen, Need, Opened, Outer, Paren, Part, Top, Within, begin, close, need, run, with_rule, with_rules}

-- a tree behind trees, and then others
pub joined_added : (front : Trees) (tree : Tree) (others : Trees) → joined (added front tree) others ≡ joined front (More tree others)
joined_added End tree others = refl
joined_added (More first front) tree others = ap (λ behind. More first behind) (joined_added front tree others)

literals_read :
    {from to : List LineToken} {xs : List RawLiteral} → AreLiterals from xs to → (room last : ℕ) (around : Around) (line : ℕ) (name : List ℕ) (ys : List RawLiteral)
    → run room last from (Opened around line name ys) ≡ run room last to (close around (Leaf line (OneOf name (ys ++ xs))))
literals_read last_literal room last around line name ys = refl
literals_read (next_literal {x = x} {to = to} {xs = xs} rest) room last around line name ys =
    literals_read rest room last around line name (ys ++ x ∷ [])
    ∙ ap (λ zs. run room last to (close around (Leaf line (OneOf name zs)))) (append_assoc ys (x ∷ []) xs)

-- where conjunctions end, behind others: the units of the last one are read
pub record ConjsRead (room last left : ℕ) (from to : List LineToken) (anys parts : Trees) (outer : Outer) : Type 0 where
  pub front : Trees
  pub units : Trees
  pub runs : run room last from (Need left (Part left anys End outer)) ≡ run room last to (After left front units outer)
  pub same : added front (all_of units) ≡ joined anys parts

mutual
  pub unit_read :
      {left : ℕ} {from to : List LineToken} {tree : Tree} → IsUnit left from tree to → (room last : ℕ) (around : Around)
      → run room last from (Need left around) ≡ run room last to (close around tree)
  unit_read (negation unit) room last around = unit_read unit room last (Within around)
  unit_read (parens {to = to} conjs) room last around =
      let read = conjs_read conjs room last End (Paren around) in
      read.runs ∙ ap (λ parts. run room last to (close around (any_of parts))) read.same
  unit_read value_is room last around = refl
  unit_read param_is room last around = refl
  unit_read (one_of {l = l} {name = name} literals) room last around = literals_read literals room last around l name []
  unit_read (none_of {l = l} {name = name} literals) room last around = literals_read literals room last (Within around) l name []
  unit_read like room last around = refl
  unit_read not_like room last around = refl
  unit_read signed room last around = refl

  pub units_read :
      {left : ℕ} {from to : List LineToken} {parts : Trees} → AreUnits left from parts to → (room last : ℕ) (anys alls : Trees) (outer : Outer)
      → run room last from (Need left (Part left anys alls outer)) ≡ run room last to (After left anys (joined alls parts) outer)
  units_read (last_unit {room = left} unit) room last anys alls outer = unit_read unit room last (Part left anys alls outer)
  units_read (next_unit {room = left} {to = to} {tree = tree} {trees = parts} unit rest) room last anys alls outer =
      unit_read unit room last (Part left anys alls outer)
      ∙ (units_read rest room last anys (added alls tree) outer ∙ ap (λ units. run room last to (After left anys units outer)) (joined_added alls tree parts))

  pub conjs_read :
      {left : ℕ} {from to : List LineToken} {parts : Trees} → AreConjs left from parts to → (room last : ℕ) (anys : Trees) (outer : Outer)
      → ConjsRead room last left from to anys parts outer
  conjs_read (last_conj {parts = parts} units) room last anys outer = record {
    front = anys;
    units = parts;
    runs = units_read units room last anys End outer;
    same = refl;
  }
  conjs_read (next_conj {parts = parts} {trees = others} units rest) room last anys outer =
      let read = conjs_read rest room last (added anys (all_of parts)) outer in
      record {
        front = read.front;
        units = read.units;
        runs = units_read units room last anys End outer ∙ read.runs;
        same = read.same ∙ joined_added anys (all_of parts) others;
      }

-- no unit begins with IF
unit_begins : {left : ℕ} {from to : List LineToken} {tree : Tree} → IsUnit left from tree to → begins_if from ≡ false
unit_begins (negation unit) = refl
unit_begins (parens conjs) = refl
unit_begins value_is = refl
unit_begins param_is = refl
unit_begins (one_of literals) = refl
unit_begins (none_of literals) = refl
unit_begins like = refl
unit_begins not_like = refl
unit_begins signed = refl

units_begin : {left : ℕ} {from to : List LineToken} {parts : Trees} → AreUnits left from parts to → begins_if from ≡ false
units_begin (last_unit unit) = unit_begins unit
units_begin (next_unit unit rest) = unit_begins unit

conjs_begin : {left : ℕ} {from to : List LineToken} {parts : Trees} → AreConjs left from parts to → begins_if from ≡ false
conjs_begin (last_conj units) = units_begin units
conjs_begin (next_conj units rest) = units_begin units

begin_other : (room line : ℕ) (token : RuleToken) → is_if token ≡ false → begin room line token ≡ need room (Part room End End (Top (InPlain line))) line token
begin_other room line If no_if = absurd (cc)
begin_other room line token no_if = refl

-- a token that isn't IF begins a predicate
pub begin_plain : (room last : ℕ) (first : LineToken) (from : List LineToken) → begins_if (first ∷ from) ≡ false
    → run room last (first ∷ from) Between ≡ run room last (first ∷ from) (Need room (Part room End End (Top (InPlain first.line))))
begin_plain room last first from no_if = rw (begin_other room first.line first.token no_if) refl

pub rule_read : {room : ℕ} {from to : List LineToken} {rule : RuleTree} → IsRule room from rule to → (last : ℕ) → run room last from Between ≡ with_rule rule (run room last to Between)
rule_read (plain {room = room} {first = first} {from = from} {to = to} {parts = parts} conjs) last =
    let read = conjs_read conjs room last End (Top (InPlain first.line)) in
    begin_plain room last first from (conjs_begin conjs)
    ∙ (read.runs ∙ ap (λ parts. with_rule (record { line = first.line; body = trees.Plain (any_of parts) }) (run room last to Between)) read.same)
rule_read (if_then {room = room} {l = l} {next = next} {to = to} {premise = premise} conjs others) last =
    let read = conjs_read conjs room last End (Top (InIf l)) in
    let then = conjs_read others room last End (Top (InThen l (any_of premise))) in
    read.runs ∙ (ap (λ parts. run room last next (Need room (Part room End End (Top (InThen l (any_of parts)))))) read.same
    ∙ (then.runs ∙ ap (λ parts. with_rule (record { line = l; body = IfThen (any_of premise) (any_of parts) }) (run room last to Between)) then.same))
rule_read (if_else {room = room} {l = l} {next = next} {behind = behind} {to = to} {premise = premise} {parts = parts} conjs others last_ones) last =
    let read = conjs_read conjs room last End (Top (InIf l)) in
    let then = conjs_read others room last End (Top (InThen l (any_of premise))) in
    let else = conjs_read last_ones room last End (Top (InElse l (any_of premise) (any_of parts))) in
    read.runs ∙ (ap (λ parts. run room last next (Need room (Part room End End (Top (InThen l (any_of parts)))))) read.same
    ∙ (then.runs ∙ (ap (λ parts. run room last behind (Need room (Part room End End (Top (InElse l (any_of premise) (any_of parts)))))) then.same
    ∙ (else.runs ∙ ap (λ others. with_rule (record { line = l; body = IfElse (any_of premise) (any_of parts) (any_of others) }) (run room last to Between)) else.same))))

pub rules_read : {room : ℕ} {tokens : List LineToken} {rules : List RuleTree} → AreRules room tokens rules → (last : ℕ) → run room last tokens Between ≡ Ok rules
rules_read no_rule last = refl
rules_read (next_rule {rule = rule} spelled rest) last = rule_read spelled last ∙ ap (λ read. with_rule rule read) (rules_read rest last)

pub plain_first :
    (room last : ℕ) (tokens : List LineToken) → 0 < length tokens → begins_if tokens ≡ false
    → run room last tokens Between ≡ run room last tokens (Need room (Part room End End (Top (InPlain (first_line tokens)))))
plain_first room last [] some no_if = absurd (omega arith)
plain_first room last (first ∷ from) some no_if = begin_plain room last first from no_if

-- constraints that are read before others
pub one_rule_more : (rules : List RuleTree) (rule : RuleTree) (read : Result (List RuleTree) Diag) → with_rules (rules ++ rule ∷ []) read ≡ with_rules rules (with_rule rule read)
one_rule_more [] rule read = refl
one_rule_more (first ∷ rules) rule read = ap (λ read. with_rule first read) (one_rule_more rules rule read)

pub no_rules_more : (rules : List RuleTree) → with_rules rules (Ok []) ≡ Ok rules
no_rules_more [] = refl
no_rules_more (first ∷ rules) = ap (λ read. with_rule first read) (no_rules_more rules)

pub rules_refused : (rules : List RuleTree) (diag : Diag) → with_rules rules (Err diag) ≡ Err diag
rules_refused [] diag = refl
rules_refused (first ∷ rules) diag = ap (λ read. with_rule first read) (rules_refused rules diag)
