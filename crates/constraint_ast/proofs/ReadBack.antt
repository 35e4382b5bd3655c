-- What the grammar spells, it spells again in the tokens that are written for it, all at one line.
use Rattle.std.proofs.Common.{◌≡◌, ℕ, suc, List, [], ◌∷◌, map, refl, sym, subst, arith}
use Rattle.std.proofs.lemmas.List.Elements.{All-cons}
use Rattle.std.specs.Prelude.{All}
use Rattle.constraint_ast.specs.believed.Trees.{Tree, Trees, Leaf, Negated, End, More, all_of, any_of, RuleTree, IfThen, IfElse}
use Rattle.constraint_ast.specs.believed.Trees as trees
use Rattle.constraint_ast.specs.believed.Grammar.{at, AreConjs, AreLiterals, AreRules, AreUnits, IsRule, IsUnit, if_else, if_then, last_conj, last_literal, last_unit, like, negation}
use Rattle.constraint_ast.specs.believed.Grammar.{next_conj, next_literal, next_rule, next_unit, no_rule, none_of, not_like, one_of, param_is, parens, plain, signed, value_is, sign_term}
use Rattle.constraint_ast.specs.believed.RuleText.{body_tokens, literals_before, more_before, more_literals, tree_before, trees_before}
use Rattle.constraint_ast.specs.RuleText.{rule_at, tree_at, trees_at}
use Rattle.constraint_ast.specs.declared.token.LineToken.{LineToken}
use Rattle.constraint_ast.specs.declared.token.RuleToken.{RuleToken}
use Rattle.constraint_ast.specs.declared.token.RuleToken.TheVariants.{Literal, Then, Else, And, Or, CloseParen, CloseBrace, Comma, Semicolon}
use Rattle.constraint_ast.specs.declared.token.Sign as signs
use Rattle.constraint_ast.specs.declared.token.Sign.TheVariants as signs_of
use Rattle.constraint_ast.specs.declared.tree.RawLiteral.{RawLiteral}
use Rattle.constraint_ast.specs.declared.tree.RawTerm.{RawTerm}
use Rattle.constraint_ast.specs.declared.writer.Place.{Place}
use Rattle.constraint_ast.specs.declared.writer.Place.TheVariants.{Alone, InAny, InAllOrNot}

-- ---- one more room does no harm

mutual
  deeper_unit : {room : ℕ} {from to : List LineToken} {tree : Tree} → IsUnit room from tree to → IsUnit (suc room) from tree to
  deeper_unit (negation unit) = negation (deeper_unit unit)
  deeper_unit (parens conjs) = parens (deeper_conjs conjs)
  deeper_unit value_is = value_is
  deeper_unit param_is = param_is
  deeper_unit (one_of literals) = one_of literals
  deeper_unit (none_of literals) = none_of literals
  deeper_unit like = like
  deeper_unit not_like = not_like
  deeper_unit signed = signed

  deeper_units : {room : ℕ} {from to : List LineToken} {parts : Trees} → AreUnits room from parts to → AreUnits (suc room) from parts to
  deeper_units (last_unit unit) = last_unit (deeper_unit unit)
  deeper_units (next_unit unit rest) = next_unit (deeper_unit unit) (deeper_units rest)

  deeper_conjs : {room : ℕ} {from to : List LineToken} {parts : Trees} → AreConjs room from parts to → AreConjs (suc room) from parts to
  deeper_conjs (last_conj units) = last_conj (deeper_units units)
  deeper_conjs (next_conj units rest) = next_conj (deeper_units units) (deeper_conjs rest)

-- ---- what is spelled isn't empty

abbrev IsSome : {A : Type 0} → List A → Type 0
IsSome [] = ⊥
IsSome (x ∷ xs) = Unit {0}

abbrev IsMore : Trees → Type 0
IsMore End = ⊥
IsMore (More tree trees) = Unit {0}

unit_some : {room : ℕ} {from to : List LineToken} {tree : Tree} → IsUnit room from tree to → IsSome from
unit_some (negation unit) = tt
unit_some (parens conjs) = tt
unit_some value_is = tt
unit_some param_is = tt
unit_some (one_of literals) = tt
unit_some (none_of literals) = tt
unit_some like = tt
unit_some not_like = tt
unit_some signed = tt

units_some : {room : ℕ} {from to : List LineToken} {parts : Trees} → AreUnits room from parts to → IsSome from
units_some (last_unit unit) = unit_some unit
units_some (next_unit unit rest) = unit_some unit

conjs_some : {room : ℕ} {from to : List LineToken} {parts : Trees} → AreConjs room from parts to → IsSome from
conjs_some (last_conj units) = units_some units
conjs_some (next_conj units rest) = units_some units

units_more : {room : ℕ} {from to : List LineToken} {parts : Trees} → AreUnits room from parts to → IsMore parts
units_more (last_unit unit) = tt
units_more (next_unit unit rest) = tt

conjs_more : {room : ℕ} {from to : List LineToken} {parts : Trees} → AreConjs room from parts to → IsMore parts
conjs_more (last_conj units) = tt
conjs_more (next_conj units rest) = tt

literals_some : {from to : List LineToken} {xs : List RawLiteral} → AreLiterals from xs to → IsSome xs
literals_some last_literal = tt
literals_some (next_literal rest) = tt

more_is : (word : RuleToken) (place : Place) (trees : Trees) (rest : List RuleToken) → IsMore trees → more_before word place trees rest ≡ word ∷ trees_before word place trees rest
more_is word place End rest more = absurd more
more_is word place (More tree trees) rest more = refl

more_literals_are : (xs : List RawLiteral) (rest : List RuleToken) → IsSome xs → more_literals xs rest ≡ Comma ∷ literals_before xs rest
more_literals_are [] rest some = absurd some
more_literals_are (x ∷ xs) rest some = refl

-- ---- a tree, as it is written in each place

module _ (l : ℕ) where
  abbrev marked : List RuleToken → List LineToken
  marked tokens = map (at l) tokens

  abbrev ReadsUnit : ℕ → Tree → Type 0
  ReadsUnit room tree = (rest : List RuleToken) → IsUnit room (marked (tree_before InAllOrNot tree rest)) (tree_at l tree) (marked rest)

  record ReadsUnits (room : ℕ) (tree : Tree) : Type 0 where
    parts : Trees
    same : all_of parts ≡ tree_at l tree
    reads : (rest : List RuleToken) → AreUnits room (marked (tree_before InAny tree rest)) parts (marked rest)

  record ReadsConjs (room : ℕ) (tree : Tree) : Type 0 where
    parts : Trees
    same : any_of parts ≡ tree_at l tree
    reads : (rest : List RuleToken) → AreConjs room (marked (tree_before Alone tree rest)) parts (marked rest)

  -- a unit, a conjunction and a disjunction read so in each place
  record UnitBack (room : ℕ) (tree : Tree) : Type 0 where
    unit : ReadsUnit room tree
    units : ReadsUnits room tree
    conjs : ReadsConjs room tree

  abbrev ReadsAll : ℕ → Trees → Type 0
  ReadsAll room trees = (rest : List RuleToken) → AreUnits room (marked (trees_before And InAllOrNot trees rest)) (trees_at l trees) (marked rest)

  abbrev ReadsAny : ℕ → Trees → Type 0
  ReadsAny room trees = (rest : List RuleToken) → AreConjs room (marked (trees_before Or InAny trees rest)) (trees_at l trees) (marked rest)

  record UnitsBack (room : ℕ) (trees : Trees) : Type 0 where
    all : ReadsAll room trees
    unit : ReadsUnit (suc room) (all_of trees)
    units : ReadsUnits room (all_of trees)
    conjs : ReadsConjs room (all_of trees)

  record ConjsBack (room : ℕ) (trees : Trees) : Type 0 where
    any : ReadsAny room trees
    unit : ReadsUnit (suc room) (any_of trees)
    units : ReadsUnits (suc room) (any_of trees)
    conjs : ReadsConjs room (any_of trees)

  units_deeper : {room : ℕ} {tree : Tree} → ReadsUnits room tree → ReadsUnits (suc room) tree
  units_deeper back = record { parts = back.parts; same = back.same; reads = λ rest. deeper_units (back.reads rest) }

  conjs_deeper : {room : ℕ} {tree : Tree} → ReadsConjs room tree → ReadsConjs (suc room) tree
  conjs_deeper back = record { parts = back.parts; same = back.same; reads = λ rest. deeper_conjs (back.reads rest) }

  -- terms and negations are written the same in each place
  leaf_back : (room line : ℕ) (term : RawTerm) → ReadsUnit room (Leaf line term) → UnitBack room (Leaf line term)
  leaf_back room line term unit = record {
    unit = unit;
    units = record { parts = More (Leaf l term) End; same = refl; reads = λ rest. last_unit (unit rest) };
    conjs = record { parts = More (Leaf l term) End; same = refl; reads = λ rest. last_conj (last_unit (unit rest)) };
  }

  not_back : (room : ℕ) (tree : Tree) → ReadsUnit room (Negated tree) → UnitBack room (Negated tree)
  not_back room tree unit = record {
    unit = unit;
    units = record { parts = More (tree_at l (Negated tree)) End; same = refl; reads = λ rest. last_unit (unit rest) };
    conjs = record { parts = More (tree_at l (Negated tree)) End; same = refl; reads = λ rest. last_conj (last_unit (unit rest)) };
  }

  -- two or more units, and two or more conjunctions
  each_back : (room : ℕ) (tree : Tree) (trees : Trees) → IsMore trees → ReadsAll room (More tree trees) → UnitsBack room (More tree trees)
  each_back room tree End more all = absurd more
  each_back room tree (More next trees) more all =
      let parts : Trees = trees_at l (More tree (More next trees)) in
      record {
        all = all;
        unit = λ rest. parens (last_conj (all (CloseParen ∷ rest)));
        units = record { parts = parts; same = refl; reads = all };
        conjs = record { parts = More (all_of parts) End; same = refl; reads = λ rest. last_conj (all rest) };
      }

  either_back : (room : ℕ) (tree : Tree) (trees : Trees) → IsMore trees → ReadsAny room (More tree trees) → ConjsBack room (More tree trees)
  either_back room tree End more any = absurd more
  either_back room tree (More next trees) more any =
      let parts : Trees = trees_at l (More tree (More next trees)) in
      record {
        any = any;
        unit = λ rest. parens (any (CloseParen ∷ rest));
        units = record { parts = More (any_of parts) End; same = refl; reads = λ rest. last_unit (parens (any (CloseParen ∷ rest))) };
        conjs = record { parts = parts; same = refl; reads = any };
      }

  literals_back : {from to : List LineToken} {xs : List RawLiteral} → AreLiterals from xs to
      → (rest : List RuleToken) → AreLiterals (marked (literals_before xs (CloseBrace ∷ rest))) xs (marked rest)
  literals_back last_literal rest = last_literal
  literals_back (next_literal {x = x} {xs = xs} literals) rest =
      subst (λ tokens. AreLiterals (marked (Literal x ∷ tokens)) (x ∷ xs) (marked rest))
      (sym (more_literals_are xs (CloseBrace ∷ rest) (literals_some literals))) (next_literal (literals_back literals rest))

  signed_back : (room line : ℕ) (sign : signs.Sign) (name : List ℕ) → UnitBack room (Leaf line (sign_term sign name))
  signed_back room line signs_of.Negative name = leaf_back room line (sign_term signs_of.Negative name) (λ rest. signed)
  signed_back room line signs_of.Positive name = leaf_back room line (sign_term signs_of.Positive name) (λ rest. signed)

  mutual
    unit_back : {room : ℕ} {from to : List LineToken} {tree : Tree} → IsUnit room from tree to → UnitBack room tree
    unit_back (negation {room = room} {tree = tree} unit) = not_back (suc room) tree (λ rest. negation ((unit_back unit).unit rest))
    unit_back (parens conjs) = let back = conjs_back conjs in record { unit = back.unit; units = back.units; conjs = conjs_deeper back.conjs }
    unit_back (value_is {room = room} {l = line}) = leaf_back room line _ (λ rest. value_is)
    unit_back (param_is {room = room} {l = line}) = leaf_back room line _ (λ rest. param_is)
    unit_back (one_of {room = room} {l = line} literals) = leaf_back room line _ (λ rest. one_of (literals_back literals rest))
    unit_back (none_of {room = room} literals) = not_back (suc room) _ (λ rest. negation (one_of (literals_back literals rest)))
    unit_back (like {room = room} {l = line}) = leaf_back room line _ (λ rest. like)
    unit_back (not_like {room = room}) = not_back (suc room) _ (λ rest. negation like)
    unit_back (signed {room = room} {l = line} {sign = sign} {name = name}) = signed_back room line sign name

    units_back : {room : ℕ} {from to : List LineToken} {parts : Trees} → AreUnits room from parts to → UnitsBack room parts
    units_back (last_unit unit) =
        let back = unit_back unit in
        record { all = λ rest. last_unit (back.unit rest); unit = λ rest. deeper_unit (back.unit rest); units = back.units; conjs = back.conjs }
    units_back (next_unit {room = room} {tree = tree} {trees = trees} unit others) =
        let back = unit_back unit in
        let behind = units_back others in
        each_back room tree trees (units_more others) (λ rest.
        subst (λ tokens. AreUnits room (marked (tree_before InAllOrNot tree tokens)) (trees_at l (More tree trees)) (marked rest)) (sym (more_is And InAllOrNot trees rest (units_more others)))
        (next_unit (back.unit (And ∷ trees_before And InAllOrNot trees rest)) (behind.all rest)))

    conjs_back : {room : ℕ} {from to : List LineToken} {parts : Trees} → AreConjs room from parts to → ConjsBack room parts
    conjs_back (last_conj {room = room} {parts = parts} units) =
        let back = units_back units in
        record {
          any = λ rest. subst (λ tree. AreConjs room (marked (tree_before InAny (all_of parts) rest)) (More tree End) (marked rest)) back.units.same (last_conj (back.units.reads rest));
          unit = back.unit;
          units = units_deeper back.units;
          conjs = back.conjs;
        }
    conjs_back (next_conj {room = room} {parts = parts} {trees = trees} units others) =
        let back = units_back units in
        let behind = conjs_back others in
        either_back room (all_of parts) trees (conjs_more others) (λ rest.
        subst (λ tokens. AreConjs room (marked (tree_before InAny (all_of parts) tokens)) (trees_at l (More (all_of parts) trees)) (marked rest))
        (sym (more_is Or InAny trees rest (conjs_more others)))
        (subst (λ tree. AreConjs room (marked (tree_before InAny (all_of parts) (Or ∷ trees_before Or InAny trees rest))) (More tree (trees_at l trees)) (marked rest)) back.units.same
        (next_conj (back.units.reads (Or ∷ trees_before Or InAny trees rest)) (behind.any rest))))

  -- ---- constraints

  plain_back : (room : ℕ) (tokens : List RuleToken) (parts : Trees) → AreConjs room (marked tokens) parts (at l Semicolon ∷ [])
      → IsRule room (marked tokens) (record { line = l; body = trees.Plain (any_of parts) }) []
  plain_back room [] parts conjs = absurd (conjs_some conjs)
  plain_back room (token ∷ tokens) parts conjs = plain conjs

  rule_back : {room : ℕ} {from to : List LineToken} {rule : RuleTree} → IsRule room from rule to → IsRule room (marked (body_tokens rule.body)) (rule_at l rule) []
  rule_back (plain {room = room} {parts = parts} conjs) =
      let back = (conjs_back conjs).conjs in
      subst (λ tree. IsRule room (marked (tree_before Alone (any_of parts) (Semicolon ∷ []))) (record { line = l; body = trees.Plain tree }) []) back.same
      (plain_back room (tree_before Alone (any_of parts) (Semicolon ∷ [])) back.parts (back.reads (Semicolon ∷ [])))
  rule_back (if_then {room = room} {premise = premise} {parts = parts} conjs others) =
      let back = (conjs_back conjs).conjs in
      let then = (conjs_back others).conjs in
      let tokens : List RuleToken = tree_before Alone (any_of parts) (Semicolon ∷ []) in
      let body : List RuleToken = body_tokens (IfThen (any_of premise) (any_of parts)) in
      subst (λ tree. IsRule room (marked body) (record { line = l; body = IfThen tree (tree_at l (any_of parts)) }) []) back.same
      (subst (λ tree. IsRule room (marked body) (record { line = l; body = IfThen (any_of back.parts) tree }) []) then.same
      (if_then (back.reads (Then ∷ tokens)) (then.reads (Semicolon ∷ []))))
  rule_back (if_else {room = room} {premise = premise} {parts = parts} {others = others} conjs then_conjs else_conjs) =
      let back = (conjs_back conjs).conjs in
      let then = (conjs_back then_conjs).conjs in
      let else = (conjs_back else_conjs).conjs in
      let last : List RuleToken = tree_before Alone (any_of others) (Semicolon ∷ []) in
      let tokens : List RuleToken = tree_before Alone (any_of parts) (Else ∷ last) in
      let body : List RuleToken = body_tokens (IfElse (any_of premise) (any_of parts) (any_of others)) in
      subst (λ tree. IsRule room (marked body) (record { line = l; body = IfElse tree (tree_at l (any_of parts)) (tree_at l (any_of others)) }) []) back.same
      (subst (λ tree. IsRule room (marked body) (record { line = l; body = IfElse (any_of back.parts) tree (tree_at l (any_of others)) }) []) then.same
      (subst (λ tree. IsRule room (marked body) (record { line = l; body = IfElse (any_of back.parts) (any_of then.parts) tree }) []) else.same
      (if_else (back.reads (Then ∷ tokens)) (then.reads (Else ∷ last)) (else.reads (Semicolon ∷ [])))))

  pub rules_back : {room : ℕ} {tokens : List LineToken} {rules : List RuleTree} → AreRules room tokens rules
      → All (λ rule. AreRules room (marked (body_tokens rule.body)) (rule_at l rule ∷ [])) rules
  rules_back no_rule = λ k d past. absurd (omega arith)
  rules_back (next_rule {room = room} {rule = rule} {rules = rules} is rest) =
      All-cons (λ rule. AreRules room (marked (body_tokens rule.body)) (rule_at l rule ∷ [])) rule rules (next_rule (rule_back is) no_rule) (rules_back rest)
