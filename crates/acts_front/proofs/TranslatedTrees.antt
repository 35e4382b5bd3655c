-- The tokens that a translated constraint has in a model file, and the tree that they spell.
use Rattle.std.proofs.Common.{◌≡◌, ℕ, zero, suc, ◌-◌, ◌<◌, ℤ, Bool, true, false, if◌then◌else◌, List, [], ◌∷◌, ◌++◌, length, map}
use Rattle.std.proofs.Common.{take, drop, get_or, Some, None, Option, refl, sym, ap, subst, ◌∙◌, arith, append_assoc, drop-cons}
use Rattle.std.proofs.lemmas.Option.{same_Some}
use Rattle.std.proofs.lemmas.Bool.{not-false, ltb-true}
use Rattle.std.proofs.lemmas.List.{drop_all, map-append, take-append-drop}
use Rattle.std.proofs.lemmas.List.Sums.{prefix_len_stops, split_at_first}
use Rattle.std.specs.List.{after_first, before_first, list_any, position_or_len}
use Rattle.std.specs.Prelude.{option_map, slice_index_or, not}
use Rattle.value_text.proofs.ListLemmas.{list_any-position}
use Rattle.value_text.specs.believed.Numbers.{number_of}
use Rattle.cov_model.specs.believed.Meaning.{number_in}
use Rattle.cov_model.specs.declared.constraint.Rel.{Rel}
use Rattle.cov_model.specs.declared.constraint.Rel.TheVariants.{Eq, Ne, Gt, Ge, Lt, Le}
use Rattle.constraint_ast.specs.believed.Trees as trees
use Rattle.constraint_ast.specs.believed.Grammar.{at, IsUnit, AreUnits, AreConjs, IsRule, negation, parens, value_is, param_is, last_unit, next_unit, last_conj, next_conj, plain, if_then, most_open}
use Rattle.constraint_ast.specs.declared.token.LineToken.{LineToken}
use Rattle.constraint_ast.specs.declared.token.RuleToken.{RuleToken}
use Rattle.constraint_ast.specs.declared.token.RuleToken.TheVariants as rule
use Rattle.constraint_ast.specs.declared.tree.RawRel.{RawRel}
use Rattle.constraint_ast.specs.declared.tree.RawRel.TheVariants as raws
use Rattle.constraint_ast.specs.declared.tree.RawLiteral.TheVariants as literals
use Rattle.constraint_ast.specs.declared.tree.RawTerm.{RawTerm}
use Rattle.constraint_ast.specs.declared.tree.RawTerm.TheVariants as terms
use Rattle.acts_front.specs.believed.Tokens.{Token, Name, Whole, Words, Truth, Relation, Arrow, Or, And, Not, Open, Close}
use Rattle.acts_front.specs.believed.Constraints.{Operand, OfWhole, OfText, OfTruth, OfParameter, Pred, Preds, Compares, Negated, Each, Either, End, More, Constraint, Plain, Implies, comparison_of, conj_in}
use Rattle.acts_front.specs.believed.Constraints.{cons_of, disj_in, disj_of, each_of, either_of, enclosed_of, implied, is_and, is_arrow, is_close, is_or, operand_in, parts, preds_of, unit_of}
use Rattle.acts_front.specs.believed.Translation.{truth_text}
use Rattle.acts_front.proofs.Glued.{and_glued, and_some, glue, mapped_some, or_glued, or_some, spells_first}

abbrev pub raw_rel : Rel → RawRel
raw_rel Eq = raws.Eq
raw_rel Ne = raws.Ne
raw_rel Gt = raws.Gt
raw_rel Ge = raws.Ge
raw_rel Lt = raws.Lt
raw_rel Le = raws.Le

-- the number that a text spells for the reader of model files
abbrev pub number_read : List ℕ → ℤ
number_read text = number_in (number_of text)

abbrev pub rule_token : Token → RuleToken
rule_token (Name name) = rule.Name name
rule_token (Whole text) = rule.Literal (literals.Number (number_read text))
rule_token (Words text) = rule.Literal (literals.Words text)
rule_token (Truth truth) = rule.Literal (literals.Words (truth_text truth))
rule_token (Relation rel) = rule.Relation (raw_rel rel)
rule_token Arrow = rule.Then
rule_token Or = rule.Or
rule_token And = rule.And
rule_token Not = rule.Not
rule_token Open = rule.OpenParen
rule_token Close = rule.CloseParen

abbrev pub raw_term : List ℕ → Rel → Operand → RawTerm
raw_term name rel (OfWhole text) = terms.ValueIs name (raw_rel rel) (literals.Number (number_read text))
raw_term name rel (OfText text) = terms.ValueIs name (raw_rel rel) (literals.Words text)
raw_term name rel (OfTruth truth) = terms.ValueIs name (raw_rel rel) (literals.Words (truth_text truth))
raw_term name rel (OfParameter other) = terms.ParamIs name (raw_rel rel) other

abbrev mutual
  pub tree_at : ℕ → Pred → trees.Tree
  tree_at line (Compares name rel operand) = trees.Leaf line (raw_term name rel operand)
  tree_at line (Negated pred) = trees.Negated (tree_at line pred)
  tree_at line (Each preds) = trees.Each (trees_at line preds)
  tree_at line (Either preds) = trees.Either (trees_at line preds)

  pub trees_at : ℕ → Preds → trees.Trees
  trees_at line End = trees.End
  trees_at line (More pred preds) = trees.More (tree_at line pred) (trees_at line preds)

abbrev pub body_at : ℕ → Constraint → trees.BodyTree
body_at line (Plain pred) = trees.Plain (tree_at line pred)
body_at line (Implies premise pred) = trees.IfThen (tree_at line premise) (tree_at line pred)

abbrev pub rule_at : ℕ → Constraint → trees.RuleTree
rule_at line constraint = record { line = line; body = body_at line constraint }

each_tree : (line : ℕ) (preds : Preds) → trees.all_of (trees_at line preds) ≡ tree_at line (each_of preds)
each_tree line End = refl
each_tree line (More pred End) = refl
each_tree line (More pred (More next preds)) = refl

either_tree : (line : ℕ) (preds : Preds) → trees.any_of (trees_at line preds) ≡ tree_at line (either_of preds)
either_tree line End = refl
either_tree line (More pred End) = refl
either_tree line (More pred (More next preds)) = refl

-- ---- the last `)` of some tokens, and their first `=>`

one_close : (token : Token) → is_close token ≡ true → token ≡ Close
one_close Close is = refl
one_close (Name name) is = absurd (cc)
one_close (Whole text) is = absurd (cc)
one_close (Words text) is = absurd (cc)
one_close (Truth truth) is = absurd (cc)
one_close (Relation rel) is = absurd (cc)
one_close Arrow is = absurd (cc)
one_close And is = absurd (cc)
one_close Or is = absurd (cc)
one_close Not is = absurd (cc)
one_close Open is = absurd (cc)

one_arrow : (token : Token) → is_arrow token ≡ true → token ≡ Arrow
one_arrow Arrow is = refl
one_arrow (Name name) is = absurd (cc)
one_arrow (Whole text) is = absurd (cc)
one_arrow (Words text) is = absurd (cc)
one_arrow (Truth truth) is = absurd (cc)
one_arrow (Relation rel) is = absurd (cc)
one_arrow Close is = absurd (cc)
one_arrow And is = absurd (cc)
one_arrow Or is = absurd (cc)
one_arrow Not is = absurd (cc)
one_arrow Open is = absurd (cc)

pub last_close : (tokens : List Token) → is_close (slice_index_or tokens (length tokens - 1) Open) ≡ true → take (length tokens - 1) tokens ++ Close ∷ [] ≡ tokens
last_close [] is = absurd (cc)
last_close (token ∷ more) is = by (token ∷ more) (omega arith) is
  where
    by : (tokens : List Token) → 0 < length tokens → is_close (slice_index_or tokens (length tokens - 1) Open) ≡ true → take (length tokens - 1) tokens ++ Close ∷ [] ≡ tokens
    by tokens some is =
        let last = length tokens - 1 in
        let within : last < length tokens = omega arith in
        let one : get_or tokens last Open ≡ Close = one_close (get_or tokens last Open) is in
        let rest : drop last tokens ≡ Close ∷ [] =
        drop-cons tokens last Open within ∙ (ap (λ t. t ∷ drop (suc last) tokens) one ∙ ap (λ ts. Close ∷ ts) (drop_all (suc last) tokens (omega arith))) in
        ap (λ ts. take last tokens ++ ts) (sym rest) ∙ take-append-drop last tokens

pub round_arrow : (tokens : List Token) → list_any is_arrow tokens ≡ true → before_first is_arrow tokens ++ Arrow ∷ after_first is_arrow tokens ≡ tokens
round_arrow tokens any =
    let place = position_or_len is_arrow tokens in
    let within : place < length tokens = ltb-true place (length tokens) (sym (list_any-position is_arrow tokens) ∙ any) in
    let one : get_or tokens place Close ≡ Arrow = one_arrow (get_or tokens place Close) (not-false _ (prefix_len_stops (λ t. not (is_arrow t)) tokens Close within)) in
    ap (λ t. before_first is_arrow tokens ++ t ∷ after_first is_arrow tokens) (sym one) ∙ sym (split_at_first is_arrow tokens Close within)

-- the parts of a comparison
pub record IsComparison (tokens : List Token) (pred : Pred) : Type 0 where
  pub name : List ℕ
  pub rel : Rel
  pub token : Token
  pub operand : Operand
  pub tokens_are : Name name ∷ Relation rel ∷ token ∷ [] ≡ tokens
  pub operand_is : operand_in token ≡ Some operand
  pub pred_is : Compares name rel operand ≡ pred

pub comparison_is : (tokens : List Token) (pred : Pred) → comparison_of tokens ≡ Some pred → IsComparison tokens pred
comparison_is (Name name ∷ Relation rel ∷ token ∷ []) pred is =
    let found = mapped_some (λ operand. Compares name rel operand) (operand_in token) pred is in
    record { name = name; rel = rel; token = token; operand = found.0; tokens_are = refl; operand_is = found.1; pred_is = found.2 }
comparison_is (Name name ∷ Relation rel ∷ token ∷ next ∷ more) pred is = absurd (cc)
comparison_is (Name name ∷ Relation rel ∷ []) pred is = absurd (cc)
comparison_is (Name name ∷ []) pred is = absurd (cc)
comparison_is (Name name ∷ Name other ∷ more) pred is = absurd (cc)
comparison_is (Name name ∷ Whole text ∷ more) pred is = absurd (cc)
comparison_is (Name name ∷ Words text ∷ more) pred is = absurd (cc)
comparison_is (Name name ∷ Truth truth ∷ more) pred is = absurd (cc)
comparison_is (Name name ∷ Arrow ∷ more) pred is = absurd (cc)
comparison_is (Name name ∷ Or ∷ more) pred is = absurd (cc)
comparison_is (Name name ∷ And ∷ more) pred is = absurd (cc)
comparison_is (Name name ∷ Not ∷ more) pred is = absurd (cc)
comparison_is (Name name ∷ Open ∷ more) pred is = absurd (cc)
comparison_is (Name name ∷ Close ∷ more) pred is = absurd (cc)
comparison_is [] pred is = absurd (cc)
comparison_is (Whole text ∷ more) pred is = absurd (cc)
comparison_is (Words text ∷ more) pred is = absurd (cc)
comparison_is (Truth truth ∷ more) pred is = absurd (cc)
comparison_is (Relation rel ∷ more) pred is = absurd (cc)
comparison_is (Arrow ∷ more) pred is = absurd (cc)
comparison_is (Or ∷ more) pred is = absurd (cc)
comparison_is (And ∷ more) pred is = absurd (cc)
comparison_is (Not ∷ more) pred is = absurd (cc)
comparison_is (Open ∷ more) pred is = absurd (cc)
comparison_is (Close ∷ more) pred is = absurd (cc)

-- ---- what the tokens of a line spell

module _ (line : ℕ) where
  abbrev pub rule_tokens : List Token → List LineToken
  rule_tokens tokens = map (λ token. at line (rule_token token)) tokens

  -- IF before a constraint with `=>`
  abbrev pub opening_tokens : List Token → List LineToken
  opening_tokens tokens = if list_any is_arrow tokens then at line rule.If ∷ [] else []

  abbrev pub constraint_tokens : List Token → List LineToken
  constraint_tokens tokens = opening_tokens tokens ++ (rule_tokens tokens ++ at line rule.Semicolon ∷ [])

  abbrev Spells : ℕ → List Token → Pred → Type 0
  Spells room tokens pred = (rest : List LineToken) → IsUnit room (rule_tokens tokens ++ rest) (tree_at line pred) rest

  seam : (front : List Token) (token : Token) (back : List Token) (rest : List LineToken)
      → rule_tokens (front ++ token ∷ back) ++ rest ≡ rule_tokens front ++ at line (rule_token token) ∷ (rule_tokens back ++ rest)
  seam front token back rest =
      ap (λ list. list ++ rest) (map-append (λ t. at line (rule_token t)) front (token ∷ back)) ∙ append_assoc (rule_tokens front) (rule_tokens (token ∷ back)) rest

  operand_spells : (room : ℕ) (name : List ℕ) (rel : Rel) (token : Token) (operand : Operand) → operand_in token ≡ Some operand
      → Spells room (Name name ∷ Relation rel ∷ token ∷ []) (Compares name rel operand)
  operand_spells room name rel (Whole text) operand is rest =
      let same : OfWhole text ≡ operand = same_Some _ _ is in
      subst (λ o. IsUnit room (rule_tokens (Name name ∷ Relation rel ∷ Whole text ∷ []) ++ rest) (tree_at line (Compares name rel o)) rest) same value_is
  operand_spells room name rel (Words text) operand is rest =
      let same : OfText text ≡ operand = same_Some _ _ is in
      subst (λ o. IsUnit room (rule_tokens (Name name ∷ Relation rel ∷ Words text ∷ []) ++ rest) (tree_at line (Compares name rel o)) rest) same value_is
  operand_spells room name rel (Truth truth) operand is rest =
      let same : OfTruth truth ≡ operand = same_Some _ _ is in
      subst (λ o. IsUnit room (rule_tokens (Name name ∷ Relation rel ∷ Truth truth ∷ []) ++ rest) (tree_at line (Compares name rel o)) rest) same value_is
  operand_spells room name rel (Name other) operand is rest =
      let same : OfParameter other ≡ operand = same_Some _ _ is in
      subst (λ o. IsUnit room (rule_tokens (Name name ∷ Relation rel ∷ Name other ∷ []) ++ rest) (tree_at line (Compares name rel o)) rest) same param_is
  operand_spells room name rel (Relation other) operand is rest = absurd (cc)
  operand_spells room name rel Arrow operand is rest = absurd (cc)
  operand_spells room name rel Or operand is rest = absurd (cc)
  operand_spells room name rel And operand is rest = absurd (cc)
  operand_spells room name rel Not operand is rest = absurd (cc)
  operand_spells room name rel Open operand is rest = absurd (cc)
  operand_spells room name rel Close operand is rest = absurd (cc)

  comparison_spells : (room : ℕ) (tokens : List Token) (pred : Pred) → comparison_of tokens ≡ Some pred → Spells room tokens pred
  comparison_spells room tokens pred is =
      let found = comparison_is tokens pred is in
      subst (λ list. Spells room list pred) found.tokens_are
      (subst (Spells room (Name found.name ∷ Relation found.rel ∷ found.token ∷ [])) found.pred_is (operand_spells room found.name found.rel found.token found.operand found.operand_is))

  -- conjunctions and disjunctions of what units spell
  module _ (room : ℕ) (read : List Token → Option Pred) (spells : (part : List Token) (pred : Pred) → read part ≡ Some pred → Spells room part pred) where
    units_spell : (list : List (List Token)) (preds : Preds) → 0 < length list → preds_of (map read list) ≡ Some preds → (rest : List LineToken)
        → AreUnits room (rule_tokens (glue And list) ++ rest) (trees_at line preds) rest
    units_spell [] preds some is rest = absurd (omega (arith, some))
    units_spell (part ∷ []) preds some is rest =
        let first = spells_first read part [] preds is in
        let none : End ≡ first.rest = same_Some _ _ first.later in
        subst (λ p. AreUnits room (rule_tokens part ++ rest) (trees_at line p) rest) (ap (λ more. More first.pred more) none ∙ first.are) (last_unit (spells part first.pred first.first rest))
    units_spell (part ∷ next ∷ others) preds some is rest =
        let first = spells_first read part (next ∷ others) preds is in
        let back = rule_tokens (glue And (next ∷ others)) ++ rest in
        let here = spells part first.pred first.first (at line rule.And ∷ back) in
        let more = units_spell (next ∷ others) first.rest (omega arith) first.later rest in
        subst (λ p. AreUnits room (rule_tokens (glue And (part ∷ next ∷ others)) ++ rest) (trees_at line p) rest) first.are
        (subst (λ from. AreUnits room from (trees_at line (More first.pred first.rest)) rest) (sym (seam part And (glue And (next ∷ others)) rest)) (next_unit here more))

    record IsConj (tokens : List Token) (pred : Pred) : Type 0 where
      units : Preds
      conj_is : each_of units ≡ pred
      conj_spells : (rest : List LineToken) → AreUnits room (rule_tokens tokens ++ rest) (trees_at line units) rest

    conj_is_read : (tokens : List Token) (pred : Pred) → conj_in read tokens ≡ Some pred → IsConj tokens pred
    conj_is_read tokens pred is =
        let found = mapped_some each_of (preds_of (map read (parts is_and tokens))) pred is in
        record {
          units = found.0;
          conj_is = found.2;
          conj_spells = λ rest. subst (λ list. AreUnits room (rule_tokens list ++ rest) (trees_at line found.0) rest)
              (and_glued tokens) (units_spell (parts is_and tokens) found.0 (and_some tokens) found.1 rest);
        }

    conjs_spell : (list : List (List Token)) (preds : Preds) → 0 < length list → preds_of (map (conj_in read) list) ≡ Some preds → (rest : List LineToken)
        → AreConjs room (rule_tokens (glue Or list) ++ rest) (trees_at line preds) rest
    conjs_spell [] preds some is rest = absurd (omega (arith, some))
    conjs_spell (part ∷ []) preds some is rest =
        let first = spells_first (conj_in read) part [] preds is in
        let none : End ≡ first.rest = same_Some _ _ first.later in
        let conj = conj_is_read part first.pred first.first in
        let tree : trees.all_of (trees_at line conj.units) ≡ tree_at line first.pred = each_tree line conj.units ∙ ap (tree_at line) conj.conj_is in
        subst (λ p. AreConjs room (rule_tokens part ++ rest) (trees_at line p) rest) (ap (λ more. More first.pred more) none ∙ first.are)
        (subst (λ t. AreConjs room (rule_tokens part ++ rest) (trees.More t trees.End) rest) tree (last_conj (conj.conj_spells rest)))
    conjs_spell (part ∷ next ∷ others) preds some is rest =
        let first = spells_first (conj_in read) part (next ∷ others) preds is in
        let conj = conj_is_read part first.pred first.first in
        let tree : trees.all_of (trees_at line conj.units) ≡ tree_at line first.pred = each_tree line conj.units ∙ ap (tree_at line) conj.conj_is in
        let back = rule_tokens (glue Or (next ∷ others)) ++ rest in
        let here = conj.conj_spells (at line rule.Or ∷ back) in
        let more = conjs_spell (next ∷ others) first.rest (omega arith) first.later rest in
        subst (λ p. AreConjs room (rule_tokens (glue Or (part ∷ next ∷ others)) ++ rest) (trees_at line p) rest) first.are
        (subst (λ from. AreConjs room from (trees_at line (More first.pred first.rest)) rest) (sym (seam part Or (glue Or (next ∷ others)) rest))
        (subst (λ t. AreConjs room (rule_tokens part ++ at line rule.Or ∷ back) (trees.More t (trees_at line first.rest)) rest) tree (next_conj here more)))

    record IsDisj (tokens : List Token) (pred : Pred) : Type 0 where
      conjs : Preds
      disj_tree : trees.any_of (trees_at line conjs) ≡ tree_at line pred
      disj_spells : (rest : List LineToken) → AreConjs room (rule_tokens tokens ++ rest) (trees_at line conjs) rest

    disj_is_read : (tokens : List Token) (pred : Pred) → disj_in read tokens ≡ Some pred → IsDisj tokens pred
    disj_is_read tokens pred is =
        let found = mapped_some either_of (preds_of (map (conj_in read) (parts is_or tokens))) pred is in
        record {
          conjs = found.0;
          disj_tree = either_tree line found.0 ∙ ap (tree_at line) found.2;
          disj_spells = λ rest. subst (λ list. AreConjs room (rule_tokens list ++ rest) (trees_at line found.0) rest)
              (or_glued tokens) (conjs_spell (parts is_or tokens) found.0 (or_some tokens) found.1 rest);
        }

    -- a disjunction in parentheses, behind its `(`
    enclosed_spells : (tokens : List Token) (pred : Pred) → enclosed_of (disj_in read) tokens ≡ Some pred → Spells (suc room) (Open ∷ tokens) pred
    enclosed_spells tokens pred is rest = by (is_close (slice_index_or tokens (length tokens - 1) Open)) refl is
      where
        inside : List Token
        inside = take (length tokens - 1) tokens

        by : (closes : Bool) → is_close (slice_index_or tokens (length tokens - 1) Open) ≡ closes → (if closes then disj_in read inside else None) ≡ Some pred
            → IsUnit (suc room) (rule_tokens (Open ∷ tokens) ++ rest) (tree_at line pred) rest
        by false closes none = absurd (cc)
        by true closes found =
            let disj = disj_is_read inside pred found in
            let from : rule_tokens inside ++ at line rule.CloseParen ∷ rest ≡ rule_tokens tokens ++ rest =
            sym (seam inside Close [] rest) ∙ ap (λ list. rule_tokens list ++ rest) (last_close tokens closes) in
            subst (λ list. IsUnit (suc room) (at line rule.OpenParen ∷ list) (tree_at line pred) rest) from
            (subst (λ tree. IsUnit (suc room) (at line rule.OpenParen ∷ (rule_tokens inside ++ at line rule.CloseParen ∷ rest)) tree rest) disj.disj_tree
            (parens (disj.disj_spells (at line rule.CloseParen ∷ rest))))

  unit_spells : (room : ℕ) (tokens : List Token) (pred : Pred) → unit_of room tokens ≡ Some pred → Spells room tokens pred
  unit_spells zero tokens pred is rest = comparison_spells zero tokens pred is rest
  unit_spells (suc room) (Not ∷ tokens) pred is rest =
      let inner = mapped_some Negated (unit_of room tokens) pred is in
      subst (λ p. IsUnit (suc room) (rule_tokens (Not ∷ tokens) ++ rest) (tree_at line p) rest) inner.2 (negation (unit_spells room tokens inner.0 inner.1 rest))
  unit_spells (suc room) (Open ∷ tokens) pred is rest = enclosed_spells room (unit_of room) (unit_spells room) tokens pred is rest
  unit_spells (suc room) [] pred is rest = comparison_spells (suc room) [] pred is rest
  unit_spells (suc room) (Name name ∷ more) pred is rest = comparison_spells (suc room) (Name name ∷ more) pred is rest
  unit_spells (suc room) (Whole text ∷ more) pred is rest = comparison_spells (suc room) (Whole text ∷ more) pred is rest
  unit_spells (suc room) (Words text ∷ more) pred is rest = comparison_spells (suc room) (Words text ∷ more) pred is rest
  unit_spells (suc room) (Truth truth ∷ more) pred is rest = comparison_spells (suc room) (Truth truth ∷ more) pred is rest
  unit_spells (suc room) (Relation rel ∷ more) pred is rest = comparison_spells (suc room) (Relation rel ∷ more) pred is rest
  unit_spells (suc room) (Arrow ∷ more) pred is rest = comparison_spells (suc room) (Arrow ∷ more) pred is rest
  unit_spells (suc room) (Or ∷ more) pred is rest = comparison_spells (suc room) (Or ∷ more) pred is rest
  unit_spells (suc room) (And ∷ more) pred is rest = comparison_spells (suc room) (And ∷ more) pred is rest
  unit_spells (suc room) (Close ∷ more) pred is rest = comparison_spells (suc room) (Close ∷ more) pred is rest

  -- a disjunction that is a constraint has a first token
  plain_spells : (tokens : List Token) (pred : Pred) → disj_of most_open tokens ≡ Some pred → (to : List LineToken)
      → IsRule most_open (rule_tokens tokens ++ at line rule.Semicolon ∷ to) (rule_at line (Plain pred)) to
  plain_spells [] pred is to = absurd (cc)
  plain_spells (token ∷ tokens) pred is to =
      let disj = disj_is_read most_open (unit_of most_open) (unit_spells most_open) (token ∷ tokens) pred is in
      subst (λ tree. IsRule most_open (rule_tokens (token ∷ tokens) ++ at line rule.Semicolon ∷ to) (record { line = line; body = trees.Plain tree }) to) disj.disj_tree
      (plain (disj.disj_spells (at line rule.Semicolon ∷ to)))

  implied_spells : (front back : List Token) (premise pred : Pred) → disj_of most_open front ≡ Some premise → disj_of most_open back ≡ Some pred → (to : List LineToken)
      → IsRule most_open (at line rule.If ∷ (rule_tokens front ++ at line rule.Then ∷ (rule_tokens back ++ at line rule.Semicolon ∷ to))) (rule_at line (Implies premise pred)) to
  implied_spells front back premise pred is next to =
      let one = disj_is_read most_open (unit_of most_open) (unit_spells most_open) front premise is in
      let two = disj_is_read most_open (unit_of most_open) (unit_spells most_open) back pred next in
      let behind = rule_tokens back ++ at line rule.Semicolon ∷ to in
      let whole = if_then (one.disj_spells (at line rule.Then ∷ behind)) (two.disj_spells (at line rule.Semicolon ∷ to)) in
      let from = at line rule.If ∷ (rule_tokens front ++ at line rule.Then ∷ behind) in
      subst (λ tree. IsRule most_open from (record { line = line; body = trees.IfThen (tree_at line premise) tree }) to) two.disj_tree
      (subst (λ tree. IsRule most_open from (record { line = line; body = trees.IfThen tree (trees.any_of (trees_at line two.conjs)) }) to) one.disj_tree whole)

  pub constraint_spells : (tokens : List Token) (constraint : Constraint) → cons_of most_open tokens ≡ Some constraint → (to : List LineToken)
      → IsRule most_open (constraint_tokens tokens ++ to) (rule_at line constraint) to
  constraint_spells tokens constraint is to = by (list_any is_arrow tokens) refl is
    where
      front : List Token
      front = before_first is_arrow tokens

      back : List Token
      back = after_first is_arrow tokens

      premised : (premise pred : Option Pred) → disj_of most_open front ≡ premise
          → disj_of most_open back ≡ pred → list_any is_arrow tokens ≡ true → implied premise pred ≡ Some constraint
          → IsRule most_open (at line rule.If ∷ ((rule_tokens tokens ++ at line rule.Semicolon ∷ []) ++ to)) (rule_at line constraint) to
      premised None pred one two any e = absurd (cc)
      premised (Some premise) None one two any e = absurd (cc)
      premised (Some premise) (Some pred) one two any e =
          let same : Implies premise pred ≡ constraint = same_Some _ _ e in
          let cut : (rule_tokens tokens ++ at line rule.Semicolon ∷ []) ++ to ≡ rule_tokens front ++ at line rule.Then ∷ (rule_tokens back ++ at line rule.Semicolon ∷ to) =
          append_assoc (rule_tokens tokens) (at line rule.Semicolon ∷ []) to
          ∙ (ap (λ list. rule_tokens list ++ at line rule.Semicolon ∷ to) (sym (round_arrow tokens any)) ∙ seam front Arrow back (at line rule.Semicolon ∷ to)) in
          subst (λ c. IsRule most_open (at line rule.If ∷ ((rule_tokens tokens ++ at line rule.Semicolon ∷ []) ++ to)) (rule_at line c) to) same
          (subst (λ list. IsRule most_open (at line rule.If ∷ list) (rule_at line (Implies premise pred)) to) (sym cut) (implied_spells front back premise pred one two to))

      by : (any : Bool) → list_any is_arrow tokens ≡ any
          → (if any then implied (disj_of most_open front) (disj_of most_open back) else option_map Plain (disj_of most_open tokens)) ≡ Some constraint
          → IsRule most_open (((if any then at line rule.If ∷ [] else []) ++ (rule_tokens tokens ++ at line rule.Semicolon ∷ [])) ++ to) (rule_at line constraint) to
      by true any e = premised (disj_of most_open front) (disj_of most_open back) refl refl any e
      by false any e =
          let found = mapped_some Plain (disj_of most_open tokens) constraint e in
          subst (λ c. IsRule most_open ((rule_tokens tokens ++ at line rule.Semicolon ∷ []) ++ to) (rule_at line c) to) found.2
          (subst (λ list. IsRule most_open list (rule_at line (Plain found.0)) to)
          (sym (append_assoc (rule_tokens tokens) (at line rule.Semicolon ∷ []) to)) (plain_spells tokens found.0 found.1 to))
