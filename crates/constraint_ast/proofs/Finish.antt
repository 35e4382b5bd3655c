-- Each state can be completed.
use Rattle.std.proofs.Common.{inl, ℕ, List, [], ◌∷◌, ◌++◌, refl}
use Rattle.constraint_ast.specs.believed.Trees.{Tree, Leaf, Negated, End, More, all_of, any_of, RuleTree, IfThen, IfElse}
use Rattle.constraint_ast.specs.Trees.{added}
use Rattle.constraint_ast.specs.believed.Trees as trees
use Rattle.constraint_ast.specs.believed.Grammar.{at, AreConjs, IsUnit, last_conj, last_literal, last_unit, like, no_rule, not_like, param_is, sign_term, signed}
use Rattle.constraint_ast.specs.declared.token.LineToken.{LineToken}
use Rattle.constraint_ast.specs.declared.token.RuleToken.TheVariants.{Name, Literal, Then, Like, Sign, OpenParen, CloseParen, OpenBrace, CloseBrace, Semicolon}
use Rattle.constraint_ast.specs.declared.token.Sign.TheVariants.{Positive}
use Rattle.constraint_ast.specs.declared.tree.RawLiteral.TheVariants.{Words}
use Rattle.constraint_ast.specs.declared.tree.RawTerm.TheVariants as terms
use Rattle.constraint_ast.specs.Machine.{After, Around, Between, InElse, InIf, InPlain, InThen, Itemed, Liked, Listed, Named, NamedNot}
use Rattle.constraint_ast.specs.Machine.{Need, Opened, Outer, Paren, Part, Related, SignNamed, SignOpened, Signed, Spot, State, Top, Within}
use Rattle.constraint_ast.proofs.Sound.{Ends, EndsOuter, EndsRule, EndsSpot, EndsUnit, closes, no_conjs, no_units, opens_list, pattern}

-- the shortest unit before a rest
abbrev some_tree : Tree
some_tree = Leaf 0 (sign_term Positive [])

abbrev some_unit : List LineToken → List LineToken
some_unit to = at 0 (Sign Positive) ∷ at 0 OpenParen ∷ at 0 (Name []) ∷ at 0 CloseParen ∷ to

a_unit : (left : ℕ) (to : List LineToken) → IsUnit left (some_unit to) some_tree to
a_unit left to = signed

a_pred : (left : ℕ) (to : List LineToken) → AreConjs left (some_unit to) (More (all_of (More some_tree End)) End) to
a_pred left to = last_conj (last_unit (a_unit left to))

-- some tokens complete a rest
abbrev pub Finishes : (List LineToken → List RuleTree → Type 0) → Type 0
Finishes Complete = (from : List LineToken) × (rules : List RuleTree) × Complete from rules

last_rule : (room : ℕ) (rule : RuleTree) → EndsRule room rule (at 0 Semicolon ∷ []) (rule ∷ [])
last_rule room rule = record { line = 0; to = []; rest = []; from_is = refl; rules_are = refl; spelled = no_rule }

spot_finishes : (room : ℕ) (spot : Spot) (tree : Tree) → Finishes (EndsSpot room spot tree)
spot_finishes room (InPlain line) tree = (at 0 Semicolon ∷ [], _, last_rule room (record { line = line; body = trees.Plain tree }))
spot_finishes room (InIf line) tree = (
  at 0 Then ∷ some_unit (at 0 Semicolon ∷ []),
  _,
  (
    More (all_of (More some_tree End)) End,
    at 0 Semicolon ∷ [],
    record { line = 0; next = some_unit (at 0 Semicolon ∷ []); from_is = refl; spelled = a_pred room (at 0 Semicolon ∷ []) },
    inl (last_rule room (record { line = line; body = IfThen tree some_tree })),
  ),
)
spot_finishes room (InThen line premise) tree = (at 0 Semicolon ∷ [], _, inl (last_rule room (record { line = line; body = IfThen premise tree })))
spot_finishes room (InElse line premise pred) tree = (at 0 Semicolon ∷ [], _, last_rule room (record { line = line; body = IfElse premise pred tree }))

mutual
  pub unit_finishes : (room : ℕ) (around : Around) (tree : Tree) → Finishes (EndsUnit room around tree)
  unit_finishes room (Part left anys alls outer) tree =
      let rest = outer_finishes room outer (any_of (added anys (all_of (added alls tree)))) in (
        rest.0,
        rest.1,
        (added anys (all_of (added alls tree)), rest.0, record { units = added alls tree; behind = rest.0; tail = no_units; conjs = no_conjs }, rest.2),
      )
  unit_finishes room (Within around) tree = unit_finishes room around (Negated tree)

  pub outer_finishes : (room : ℕ) (outer : Outer) (tree : Tree) → Finishes (EndsOuter room outer tree)
  outer_finishes room (Top spot) tree = spot_finishes room spot tree
  outer_finishes room (Paren around) tree = let rest = unit_finishes room around tree in (at 0 CloseParen ∷ rest.0, rest.1, (0, rest.0, refl, rest.2))

pub finishes : (room : ℕ) (state : State) → Finishes (Ends room state)
finishes room Between = ([], [], no_rule)
finishes room (Need left around) = let rest = unit_finishes room around some_tree in (some_unit rest.0, rest.1, (some_tree, rest.0, a_unit left rest.0, rest.2))
finishes room (Named left around line name) =
    let rest = unit_finishes room around (Leaf line (terms.Like name [])) in
    (at 0 Like ∷ at 0 (Literal (Words [])) ∷ rest.0, rest.1, (Leaf line (terms.Like name []), rest.0, like, rest.2))
finishes room (NamedNot around line name) =
    let rest = unit_finishes room around (Leaf line (terms.Like name [])) in
    (at 0 Like ∷ at 0 (Literal (Words [])) ∷ rest.0, rest.1, (Leaf line (terms.Like name []), rest.0, (λ left k. not_like), rest.2))
finishes room (Related around line name rel) =
    let rest = unit_finishes room around (Leaf line (terms.ParamIs name rel [])) in
    (at 0 (Name []) ∷ rest.0, rest.1, (Leaf line (terms.ParamIs name rel []), rest.0, (λ left k. param_is), rest.2))
finishes room (Listed around line name) =
    let rest = unit_finishes room around (Leaf line (terms.OneOf name (Words [] ∷ []))) in
    (at 0 OpenBrace ∷ at 0 (Literal (Words [])) ∷ at 0 CloseBrace ∷ rest.0, rest.1, (Words [] ∷ [], rest.0, opens_list last_literal, rest.2))
finishes room (Opened around line name xs) =
    let rest = unit_finishes room around (Leaf line (terms.OneOf name (xs ++ Words [] ∷ []))) in
    (at 0 (Literal (Words [])) ∷ at 0 CloseBrace ∷ rest.0, rest.1, (Words [] ∷ [], rest.0, last_literal, rest.2))
finishes room (Itemed around line name xs) =
    let rest = unit_finishes room around (Leaf line (terms.OneOf name (xs ++ []))) in
    (at 0 CloseBrace ∷ rest.0, rest.1, ([], rest.0, closes, rest.2))
finishes room (Liked around line name) =
    let rest = unit_finishes room around (Leaf line (terms.Like name [])) in
    (at 0 (Literal (Words [])) ∷ rest.0, rest.1, ([], rest.0, pattern, rest.2))
finishes room (Signed around line sign) =
    let rest = unit_finishes room around (Leaf line (sign_term sign [])) in
    (at 0 OpenParen ∷ at 0 (Name []) ∷ at 0 CloseParen ∷ rest.0, rest.1, (Leaf line (sign_term sign []), rest.0, (λ left. signed), rest.2))
finishes room (SignOpened around line sign) =
    let rest = unit_finishes room around (Leaf line (sign_term sign [])) in
    (at 0 (Name []) ∷ at 0 CloseParen ∷ rest.0, rest.1, (Leaf line (sign_term sign []), rest.0, (λ left k. signed), rest.2))
finishes room (SignNamed around line sign name) =
    let rest = unit_finishes room around (Leaf line (sign_term sign name)) in
    (at 0 CloseParen ∷ rest.0, rest.1, (Leaf line (sign_term sign name), rest.0, (λ left k i. signed), rest.2))
finishes room (After left anys alls outer) =
    let rest = outer_finishes room outer (any_of (added anys (all_of alls))) in
    (rest.0, rest.1, (added anys (all_of alls), rest.0, record { units = alls; behind = rest.0; tail = no_units; conjs = no_conjs }, rest.2))
