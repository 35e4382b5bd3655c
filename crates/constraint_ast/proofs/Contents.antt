-- The names and literals of a tree that is spelled are those of its tokens.
use Rattle.std.proofs.Common.{ℕ, Bool, true, false, List, [], ◌∷◌, arith}
use Rattle.std.specs.List.{AllByRecursion}
use Rattle.std.proofs.lemmas.List.Elements.{All-cons}
use Rattle.std.specs.Prelude.{All}
use Rattle.constraint_ast.specs.believed.Trees.{Tree, Trees, Leaf, Negated, Each, Either, End, More, all_of, any_of, RuleTree}
use Rattle.constraint_ast.specs.believed.Grammar.{AreConjs, AreLiterals, AreRules, AreUnits, IsRule, IsUnit, if_else, if_then, last_conj, last_literal, last_unit, like, negation}
use Rattle.constraint_ast.specs.believed.Grammar.{next_conj, next_literal, next_rule, next_unit, no_rule, none_of, not_like, one_of, param_is, parens, plain, sign_term, signed, value_is}
use Rattle.constraint_ast.specs.believed.RuleText.{all_has_parens, any_has_parens, body_tokens, in_parens, literals_before, more_before, more_literals, term_before, tree_before, trees_before}
use Rattle.constraint_ast.specs.declared.token.LineToken.{LineToken}
use Rattle.constraint_ast.specs.declared.token.RuleToken.{RuleToken}
use Rattle.constraint_ast.specs.declared.token.RuleToken.TheVariants.{Name, Literal, And, Or, Semicolon}
use Rattle.constraint_ast.specs.declared.token.Sign as signs
use Rattle.constraint_ast.specs.declared.token.Sign.TheVariants as signs_of
use Rattle.constraint_ast.specs.declared.tree.RawLiteral.{RawLiteral}
use Rattle.constraint_ast.specs.declared.tree.RawLiteral.TheVariants.{Words}
use Rattle.constraint_ast.specs.declared.tree.RawTerm.{RawTerm}
use Rattle.constraint_ast.specs.declared.tree.RawTerm.TheVariants as terms
use Rattle.constraint_ast.specs.declared.writer.Place.{Place}
use Rattle.constraint_ast.specs.declared.writer.Place.TheVariants.{Alone, InAny, InAllOrNot}

-- what holds of names and literals
module _ (NameIs : List ℕ → Type 0) (LiteralIs : RawLiteral → Type 0) where
  -- of a token
  abbrev pub TokenIs : RuleToken → Type 0
  TokenIs (Name name) = NameIs name
  TokenIs (Literal x) = LiteralIs x
  TokenIs token = Unit {0}

  abbrev pub TokensAre : List LineToken → Type 0
  TokensAre [] = Unit {0}
  TokensAre (token ∷ tokens) = TokenIs token.token × TokensAre tokens

  abbrev pub WrittenAre : List RuleToken → Type 0
  WrittenAre tokens = AllByRecursion TokenIs tokens

  -- of a tree
  abbrev pub TermIs : RawTerm → Type 0
  TermIs (terms.ValueIs name rel x) = NameIs name × LiteralIs x
  TermIs (terms.ParamIs name rel other) = NameIs name × NameIs other
  TermIs (terms.OneOf name xs) = NameIs name × AllByRecursion LiteralIs xs
  TermIs (terms.Like name pattern) = NameIs name × LiteralIs (Words pattern)
  TermIs (terms.Negative name) = NameIs name
  TermIs (terms.Positive name) = NameIs name

  abbrev mutual
    pub TreeIs : Tree → Type 0
    TreeIs (Leaf line term) = TermIs term
    TreeIs (Negated tree) = TreeIs tree
    TreeIs (Each trees) = TreesAre trees
    TreeIs (Either trees) = TreesAre trees

    pub TreesAre : Trees → Type 0
    TreesAre End = Unit {0}
    TreesAre (More tree trees) = TreeIs tree × TreesAre trees

  -- ---- from the tokens to the tree

  all_is : (trees : Trees) → TreesAre trees → TreeIs (all_of trees)
  all_is End are = tt
  all_is (More tree End) are = are.0
  all_is (More tree (More next trees)) are = are

  any_is : (trees : Trees) → TreesAre trees → TreeIs (any_of trees)
  any_is End are = tt
  any_is (More tree End) are = are.0
  any_is (More tree (More next trees)) are = are

  sign_is : (sign : signs.Sign) (name : List ℕ) → NameIs name → TermIs (sign_term sign name)
  sign_is signs_of.Negative name is = is
  sign_is signs_of.Positive name is = is

  literals_are : {from to : List LineToken} {xs : List RawLiteral} → AreLiterals from xs to → TokensAre from → AllByRecursion LiteralIs xs × TokensAre to
  literals_are last_literal are = ((are.0, tt), are.1.1)
  literals_are (next_literal literals) are = let rest = literals_are literals are.1.1 in ((are.0, rest.0), rest.1)

  mutual
    unit_is : {room : ℕ} {from to : List LineToken} {tree : Tree} → IsUnit room from tree to → TokensAre from → TreeIs tree × TokensAre to
    unit_is (negation unit) are = unit_is unit are.1
    unit_is (parens {parts = parts} conjs) are = let inner = conjs_are conjs are.1 in (any_is parts inner.0, inner.1.1)
    unit_is value_is are = ((are.0, are.1.1.0), are.1.1.1)
    unit_is param_is are = ((are.0, are.1.1.0), are.1.1.1)
    unit_is (one_of literals) are = let list = literals_are literals are.1.1.1 in ((are.0, list.0), list.1)
    unit_is (none_of literals) are = let list = literals_are literals are.1.1.1.1 in ((are.0, list.0), list.1)
    unit_is like are = ((are.0, are.1.1.0), are.1.1.1)
    unit_is not_like are = ((are.0, are.1.1.1.0), are.1.1.1.1)
    unit_is (signed {sign = sign} {name = name}) are = (sign_is sign name are.1.1.0, are.1.1.1.1)

    units_are : {room : ℕ} {from to : List LineToken} {parts : Trees} → AreUnits room from parts to → TokensAre from → TreesAre parts × TokensAre to
    units_are (last_unit unit) are = let is = unit_is unit are in ((is.0, tt), is.1)
    units_are (next_unit unit units) are =
        let is = unit_is unit are in
        let rest = units_are units is.1.1 in
        ((is.0, rest.0), rest.1)

    conjs_are : {room : ℕ} {from to : List LineToken} {parts : Trees} → AreConjs room from parts to → TokensAre from → TreesAre parts × TokensAre to
    conjs_are (last_conj {parts = parts} units) are = let is = units_are units are in ((all_is parts is.0, tt), is.1)
    conjs_are (next_conj {parts = parts} units conjs) are =
        let is = units_are units are in
        let rest = conjs_are conjs is.1.1 in
        ((all_is parts is.0, rest.0), rest.1)

  -- ---- from the tree to the tokens that are written

  more_literals_are : (xs : List RawLiteral) (rest : List RuleToken) → AllByRecursion LiteralIs xs → WrittenAre rest → WrittenAre (more_literals xs rest)
  more_literals_are [] rest are behind = behind
  more_literals_are (x ∷ xs) rest are behind = (tt, (are.0, more_literals_are xs rest are.1 behind))

  literals_written : (xs : List RawLiteral) (rest : List RuleToken) → AllByRecursion LiteralIs xs → WrittenAre rest → WrittenAre (literals_before xs rest)
  literals_written [] rest are behind = behind
  literals_written (x ∷ xs) rest are behind = (are.0, more_literals_are xs rest are.1 behind)

  term_written : (term : RawTerm) (rest : List RuleToken) → TermIs term → WrittenAre rest → WrittenAre (term_before term rest)
  term_written (terms.ValueIs name rel x) rest is behind = (is.0, (tt, (is.1, behind)))
  term_written (terms.ParamIs name rel other) rest is behind = (is.0, (tt, (is.1, behind)))
  term_written (terms.OneOf name xs) rest is behind = (is.0, (tt, (tt, literals_written xs _ is.1 (tt, behind))))
  term_written (terms.Like name pattern) rest is behind = (is.0, (tt, (is.1, behind)))
  term_written (terms.Negative name) rest is behind = (tt, (tt, (is, (tt, behind))))
  term_written (terms.Positive name) rest is behind = (tt, (tt, (is, (tt, behind))))

  parens_written :
      (parens : Bool) (inner : List RuleToken → List RuleToken) (rest : List RuleToken) → ((rest : List RuleToken) → WrittenAre rest → WrittenAre (inner rest)) → WrittenAre rest
      → WrittenAre (in_parens parens inner rest)
  parens_written true inner rest are behind = (tt, are _ (tt, behind))
  parens_written false inner rest are behind = are rest behind

  mutual
    tree_written : (place : Place) (tree : Tree) (rest : List RuleToken) → TreeIs tree → WrittenAre rest → WrittenAre (tree_before place tree rest)
    tree_written place (Leaf line term) rest is behind = term_written term rest is behind
    tree_written place (Negated tree) rest is behind = (tt, tree_written InAllOrNot tree rest is behind)
    tree_written place (Each trees) rest is behind =
        parens_written (all_has_parens place) (λ rest. trees_before And InAllOrNot trees rest) rest (λ rest behind. trees_written And InAllOrNot trees rest tt is behind) behind
    tree_written place (Either trees) rest is behind =
        parens_written (any_has_parens place) (λ rest. trees_before Or InAny trees rest) rest (λ rest behind. trees_written Or InAny trees rest tt is behind) behind

    trees_written : (word : RuleToken) (place : Place) (trees : Trees) (rest : List RuleToken)
        → TokenIs word → TreesAre trees → WrittenAre rest → WrittenAre (trees_before word place trees rest)
    trees_written word place End rest is are behind = behind
    trees_written word place (More tree trees) rest is are behind = tree_written place tree (more_before word place trees rest) are.0 (more_written word place trees rest is are.1 behind)

    more_written : (word : RuleToken) (place : Place) (trees : Trees) (rest : List RuleToken) → TokenIs word → TreesAre trees → WrittenAre rest → WrittenAre (more_before word place trees rest)
    more_written word place End rest is are behind = behind
    more_written word place (More tree trees) rest is are behind = (is, tree_written place tree (more_before word place trees rest) are.0 (more_written word place trees rest is are.1 behind))

  -- ---- constraints

  pred_written : (parts : Trees) (rest : List RuleToken) → TreesAre parts → WrittenAre rest → WrittenAre (tree_before Alone (any_of parts) rest)
  pred_written parts rest are behind = tree_written Alone (any_of parts) rest (any_is parts are) behind

  rule_is : {room : ℕ} {from to : List LineToken} {rule : RuleTree} → IsRule room from rule to → TokensAre from → WrittenAre (body_tokens rule.body) × TokensAre to
  rule_is (plain {parts = parts} conjs) are = let pred = conjs_are conjs are in (pred_written parts (Semicolon ∷ []) pred.0 (tt, tt), pred.1.1)
  rule_is (if_then {premise = premise} {parts = parts} conjs others) are =
      let first = conjs_are conjs are.1 in
      let then = conjs_are others first.1.1 in
      ((tt, pred_written premise _ first.0 (tt, pred_written parts (Semicolon ∷ []) then.0 (tt, tt))), then.1.1)
  rule_is (if_else {premise = premise} {parts = parts} {others = others} conjs then_conjs else_conjs) are =
      let first = conjs_are conjs are.1 in
      let then = conjs_are then_conjs first.1.1 in
      let else = conjs_are else_conjs then.1.1 in
      ((tt, pred_written premise _ first.0 (tt, pred_written parts _ then.0 (tt, pred_written others (Semicolon ∷ []) else.0 (tt, tt)))), else.1.1)

  pub rules_are : {room : ℕ} {tokens : List LineToken} {rules : List RuleTree} → AreRules room tokens rules → TokensAre tokens → All (λ rule. WrittenAre (body_tokens rule.body)) rules
  rules_are no_rule are = λ k d past. absurd (omega arith)
  rules_are (next_rule {rule = rule} {rules = rules} is rest) are =
      let here = rule_is is are in
      All-cons (λ rule. WrittenAre (body_tokens rule.body)) rule rules here.0 (rules_are rest here.1)
