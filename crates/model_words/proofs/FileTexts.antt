-- The text of a constraint is that of the tree that its model file spells, with the names as they are declared.
use Rattle.std.proofs.Common.{◌≡◌, ℕ, ◌+◌, Bool, true, false, List, [], ◌∷◌, ◌++◌, map, length, Option, None, Some, refl, ap, sym, subst, ◌∙◌}
use Rattle.std.specs.Prelude.{Result, Ok, Err, not}
use Rattle.std.specs.List.{list_all}
use Rattle.value_text.proofs.ListLemmas.{one_ok}
use Rattle.cov_model.specs.believed.Sound.{ModelView}
use Rattle.cov_model.specs.declared.parameter.Param.{Param}
use Rattle.cov_model.specs.declared.constraint.Term as terms
use Rattle.cov_model.specs.declared.constraint.Term.TheVariants as term
use Rattle.model_lex.specs.believed.Sections.{Split, sections_of}
use Rattle.model_lex.specs.declared.diag.DiagCode.{DiagCode}
use Rattle.model_lex.specs.declared.diag.DiagCode.TheVariants.{TypeMismatch, LikeNeedsText}
use Rattle.model_lex.specs.declared.options.ModelOpts.{ModelOpts}
use Rattle.model_parse.specs.declared.raw_model.RawModel.{RawModel}
use Rattle.constraint_ast.specs.believed.Lexing.{Spell}
use Rattle.constraint_ast.specs.believed.RuleText.{all_has_parens, any_has_parens, body_tokens, in_parens, more_before, rule_text, spaced, term_before, tree_before, trees_before}
use Rattle.constraint_ast.specs.believed.Trees.{Tree, Trees, Leaf, Negated, Each, Either, End, More, BodyTree, Plain, IfThen, IfElse, RuleTree}
use Rattle.constraint_ast.specs.declared.token.RuleToken.{RuleToken}
use Rattle.constraint_ast.specs.declared.token.RuleToken.TheVariants.{And, CloseParen, Else, If, Not, OpenParen, Or, Semicolon, Then}
use Rattle.constraint_ast.specs.declared.tree.RawLiteral.{RawLiteral}
use Rattle.constraint_ast.specs.declared.tree.RawLiteral.TheVariants.{Number, Words}
use Rattle.constraint_ast.specs.declared.tree.RawRel.{RawRel}
use Rattle.constraint_ast.specs.declared.tree.RawRel.TheVariants.{Eq, Ne, Gt, Ge, Lt, Le}
use Rattle.constraint_ast.specs.declared.tree.RawTerm.{RawTerm}
use Rattle.constraint_ast.specs.declared.tree.RawTerm.TheVariants.{ValueIs, ParamIs, OneOf, Like, Negative, Positive}
use Rattle.constraint_ast.specs.declared.writer.Place.{Place}
use Rattle.constraint_ast.specs.declared.writer.Place.TheVariants.{Alone, InAllOrNot, InAny}
use Rattle.constraint_ast.proofs.OneReading.{lines_have_one_reading}
use Rattle.type_check.specs.believed.Checking.{body_terms, first_refusal, given_that, is_of_type, is_same_type, literal_of, numeric_at, param_named, rel_of, rules_terms, term_of, term_refusal_or, terms_in, terms_of, with_param}
use Rattle.type_check.specs.believed.Constraints.{body_of, found_term, pred_of, preds_of, rule_of, rules_from}
use Rattle.type_check.specs.believed.ModelOf.{Answer, IsAnswerIn, IsAnswerOf, by_grammar, by_model, by_params, by_rules, by_sections, in_sections, model_of}
use Rattle.type_check.proofs.Refusals.{no_diag, none_parts}
use Rattle.type_check.proofs.RuleLists.{told_parts}
use Rattle.model_words.specs.believed.Constraints.{body_spelled, literal_spelled, name_at, pred_spelled, preds_spelled, rel_spelled, rule_words, term_spelled}
use Rattle.model_words.specs.Laws.{declared_body, declared_or, declared_rule, declared_term, declared_tree, declared_trees, TextsAreOfTheFile}

rel_back : (relation : RawRel) → rel_spelled (rel_of relation) ≡ relation
rel_back Eq = refl
rel_back Ne = refl
rel_back Gt = refl
rel_back Ge = refl
rel_back Lt = refl
rel_back Le = refl

literal_back : (value : RawLiteral) → literal_spelled (literal_of value) ≡ value
literal_back (Number n) = refl
literal_back (Words text) = refl

literals_back : (values : List RawLiteral) → map literal_spelled (map literal_of values) ≡ values
literals_back [] = refl
literals_back (value ∷ values) =
    ap (λ first. first ∷ map literal_spelled (map literal_of values)) (literal_back value) ∙ ap (λ rest. value ∷ rest) (literals_back values)

-- a term that is found
none_found : {A : Type 0} {code : DiagCode} {found : terms.Term} → Err code ≡ Ok found → A
none_found {code = code} {found = found} e = absurd (differ e)
  where
    differ : Err code ≡ Ok found → ⊥
    differ h = cc

met_is : (met : Bool) (code : DiagCode) (one other : terms.Term) → given_that met code one ≡ Ok other → one ≡ other
met_is true code one other e = one_ok refl e
met_is false code one other e = none_found e

module _ (fold : Bool) (params : List Param) where
  term_back : (raw : RawTerm) (found : terms.Term) → term_of fold params raw ≡ Ok found → term_spelled params found ≡ declared_term fold params raw
  term_back (ValueIs name relation value) found = at (param_named fold params name) refl
    where
      given : ℕ → Result terms.Term DiagCode
      given p = given_that (is_of_type (numeric_at params p) value) TypeMismatch (term.ValueIs p (rel_of relation) (literal_of value))

      at : (place : Option ℕ) → param_named fold params name ≡ place → with_param place given ≡ Ok found
          → term_spelled params found ≡ declared_term fold params (ValueIs name relation value)
      at None named is = none_found is
      at (Some p) named is =
          ap (term_spelled params) (sym (met_is (is_of_type (numeric_at params p) value) TypeMismatch (term.ValueIs p (rel_of relation) (literal_of value)) found is))
          ∙ ap (λ spelled. ValueIs (name_at params p) spelled (literal_spelled (literal_of value))) (rel_back relation)
          ∙ ap (λ spelled. ValueIs (name_at params p) relation spelled) (literal_back value)
          ∙ ap (λ place. ValueIs (declared_or params name place) relation value) (sym named)
  term_back (ParamIs name relation other) found = at (param_named fold params name) refl
    where
      given : ℕ → ℕ → Result terms.Term DiagCode
      given p q = given_that (is_same_type (numeric_at params p) (numeric_at params q)) TypeMismatch (term.ParamIs p (rel_of relation) q)

      both : (p : ℕ) → param_named fold params name ≡ Some p → (place : Option ℕ) → param_named fold params other ≡ place → with_param place (given p) ≡ Ok found
          → term_spelled params found ≡ declared_term fold params (ParamIs name relation other)
      both p first None named is = none_found is
      both p first (Some q) named is =
          ap (term_spelled params) (sym (met_is (is_same_type (numeric_at params p) (numeric_at params q)) TypeMismatch (term.ParamIs p (rel_of relation) q) found is))
          ∙ ap (λ spelled. ParamIs (name_at params p) spelled (name_at params q)) (rel_back relation)
          ∙ ap (λ place. ParamIs (declared_or params name place) relation (name_at params q)) (sym first)
          ∙ ap (λ place. ParamIs (declared_or params name (param_named fold params name)) relation (declared_or params other place)) (sym named)

      at : (place : Option ℕ) → param_named fold params name ≡ place → with_param place (λ p. with_param (param_named fold params other) (given p)) ≡ Ok found
          → term_spelled params found ≡ declared_term fold params (ParamIs name relation other)
      at None named is = none_found is
      at (Some p) named is = both p named (param_named fold params other) refl is
  term_back (OneOf name values) found = at (param_named fold params name) refl
    where
      given : ℕ → Result terms.Term DiagCode
      given p = given_that (list_all (is_of_type (numeric_at params p)) values) TypeMismatch (term.OneOf p (map literal_of values))

      at : (place : Option ℕ) → param_named fold params name ≡ place → with_param place given ≡ Ok found
          → term_spelled params found ≡ declared_term fold params (OneOf name values)
      at None named is = none_found is
      at (Some p) named is =
          ap (term_spelled params) (sym (met_is (list_all (is_of_type (numeric_at params p)) values) TypeMismatch (term.OneOf p (map literal_of values)) found is))
          ∙ ap (λ spelled. OneOf (name_at params p) spelled) (literals_back values)
          ∙ ap (λ place. OneOf (declared_or params name place) values) (sym named)
  term_back (Like name pattern) found = at (param_named fold params name) refl
    where
      given : ℕ → Result terms.Term DiagCode
      given p = given_that (not (numeric_at params p)) LikeNeedsText (term.Like p pattern)

      at : (place : Option ℕ) → param_named fold params name ≡ place → with_param place given ≡ Ok found
          → term_spelled params found ≡ declared_term fold params (Like name pattern)
      at None named is = none_found is
      at (Some p) named is =
          ap (term_spelled params) (sym (met_is (not (numeric_at params p)) LikeNeedsText (term.Like p pattern) found is))
          ∙ ap (λ place. Like (declared_or params name place) pattern) (sym named)
  term_back (Negative name) found = at (param_named fold params name) refl
    where
      at : (place : Option ℕ) → param_named fold params name ≡ place → with_param place (λ p. Ok (term.Negative p)) ≡ Ok found
          → term_spelled params found ≡ declared_term fold params (Negative name)
      at None named is = none_found is
      at (Some p) named is = ap (term_spelled params) (sym (one_ok refl is)) ∙ ap (λ place. Negative (declared_or params name place)) (sym named)
  term_back (Positive name) found = at (param_named fold params name) refl
    where
      at : (place : Option ℕ) → param_named fold params name ≡ place → with_param place (λ p. Ok (term.Positive p)) ≡ Ok found
          → term_spelled params found ≡ declared_term fold params (Positive name)
      at None named is = none_found is
      at (Some p) named is = ap (term_spelled params) (sym (one_ok refl is)) ∙ ap (λ place. Positive (declared_or params name place)) (sym named)

  leaf_back : (line : ℕ) (raw : RawTerm) (read : Result terms.Term DiagCode) → term_of fold params raw ≡ read → term_refusal_or line read None ≡ None
      → term_spelled params (found_term read) ≡ declared_term fold params raw
  leaf_back line raw (Ok found) is none = term_back raw found is
  leaf_back line raw (Err code) is none = no_diag (record { line = line; code = code }) none

  parens_same : (b : Bool) (one other : List RuleToken → List RuleToken) → ((rest : List RuleToken) → one rest ≡ other rest) → (rest : List RuleToken)
      → in_parens b one rest ≡ in_parens b other rest
  parens_same true one other same rest = ap (λ inner. OpenParen ∷ inner) (same (CloseParen ∷ rest))
  parens_same false one other same rest = same rest

  -- a tree is written as the file's, where none of its terms is refused
  mutual
    tree_back : (tree : Tree) → first_refusal fold params (terms_of tree) ≡ None → (place : Place) (rest : List RuleToken)
        → tree_before place (pred_spelled params (pred_of fold params tree)) rest ≡ tree_before place (declared_tree fold params tree) rest
    tree_back (Leaf line raw) none place rest = ap (λ written. term_before written rest) (leaf_back line raw (term_of fold params raw) refl none)
    tree_back (Negated tree) none place rest = ap (λ inner. Not ∷ inner) (tree_back tree none InAllOrNot rest)
    tree_back (Each trees) none place rest =
        parens_same (all_has_parens place) (λ rest. trees_before And InAllOrNot (preds_spelled params (preds_of fold params trees)) rest)
        (λ rest. trees_before And InAllOrNot (declared_trees fold params trees) rest) (trees_back And InAllOrNot trees none) rest
    tree_back (Either trees) none place rest =
        parens_same (any_has_parens place) (λ rest. trees_before Or InAny (preds_spelled params (preds_of fold params trees)) rest)
        (λ rest. trees_before Or InAny (declared_trees fold params trees) rest) (trees_back Or InAny trees none) rest

    trees_back : (word : RuleToken) (place : Place) (trees : Trees) → first_refusal fold params (terms_in trees) ≡ None → (rest : List RuleToken)
        → trees_before word place (preds_spelled params (preds_of fold params trees)) rest ≡ trees_before word place (declared_trees fold params trees) rest
    trees_back word place End none rest = refl
    trees_back word place (More tree trees) none rest =
        let both = none_parts fold params (terms_of tree) (terms_in trees) none in
        tree_back tree both.0 place (more_before word place (preds_spelled params (preds_of fold params trees)) rest)
        ∙ ap (λ behind. tree_before place (declared_tree fold params tree) behind) (more_back word place trees both.1 rest)

    more_back : (word : RuleToken) (place : Place) (trees : Trees) → first_refusal fold params (terms_in trees) ≡ None → (rest : List RuleToken)
        → more_before word place (preds_spelled params (preds_of fold params trees)) rest ≡ more_before word place (declared_trees fold params trees) rest
    more_back word place End none rest = refl
    more_back word place (More tree trees) none rest =
        let both = none_parts fold params (terms_of tree) (terms_in trees) none in
        ap (λ behind. word ∷ behind) (tree_back tree both.0 place (more_before word place (preds_spelled params (preds_of fold params trees)) rest)
        ∙ ap (λ behind. tree_before place (declared_tree fold params tree) behind) (more_back word place trees both.1 rest))

  body_back : (body : BodyTree) → first_refusal fold params (body_terms body) ≡ None
      → body_tokens (body_spelled params (body_of fold params body)) ≡ body_tokens (declared_body fold params body)
  body_back (Plain tree) none = tree_back tree none Alone (Semicolon ∷ [])
  body_back (IfThen premise tree) none =
      let both = none_parts fold params (terms_of premise) (terms_of tree) none in
      ap (λ behind. If ∷ behind) (tree_back premise both.0 Alone (Then ∷ tree_before Alone (pred_spelled params (pred_of fold params tree)) (Semicolon ∷ []))
      ∙ ap (λ behind. tree_before Alone (declared_tree fold params premise) (Then ∷ behind)) (tree_back tree both.1 Alone (Semicolon ∷ [])))
  body_back (IfElse premise tree other) none =
      let both = none_parts fold params (terms_of premise) (terms_of tree ++ terms_of other) none in
      let rest = none_parts fold params (terms_of tree) (terms_of other) both.1 in
      let last = Else ∷ tree_before Alone (pred_spelled params (pred_of fold params other)) (Semicolon ∷ []) in
      ap (λ behind. If ∷ behind) (tree_back premise both.0 Alone (Then ∷ tree_before Alone (pred_spelled params (pred_of fold params tree)) last)
      ∙ ap (λ behind. tree_before Alone (declared_tree fold params premise) (Then ∷ behind)) (tree_back tree rest.0 Alone last
      ∙ ap (λ behind. tree_before Alone (declared_tree fold params tree) (Else ∷ behind)) (tree_back other rest.1 Alone (Semicolon ∷ []))))

  rules_back : (count : ℕ) (trees : List RuleTree) → first_refusal fold params (rules_terms trees) ≡ None
      → map (rule_words params) (rules_from count fold params trees) ≡ map (λ tree. rule_text (declared_rule fold params tree)) trees
  rules_back count [] none = refl
  rules_back count (tree ∷ trees) none =
      let both = none_parts fold params (body_terms tree.body) (rules_terms trees) none in
      ap (λ tokens. spaced true tokens ∷ map (rule_words params) (rules_from (count + 1) fold params trees)) (body_back tree.body both.0)
      ∙ ap (λ rest. rule_text (declared_rule fold params tree) ∷ rest) (rules_back (count + 1) trees both.1)

-- the texts of an answer, where it is a model
abbrev TextsIn : Answer → List RuleTree → Type 0
TextsIn (Ok read) trees = map (rule_words read.0.params) read.0.rules ≡ map (λ tree. rule_text (declared_rule read.0.fold read.0.params tree)) trees
TextsIn (Err fault) trees = Unit {0}

in_split : (opts : ModelOpts) (split : Split) (trees : List RuleTree) → Spell split.rules trees → (answer : Answer) → IsAnswerIn opts split answer → TextsIn answer trees
in_split opts split trees spelled answer (by_params told) = tt
in_split opts split trees spelled answer (by_grammar raw read refused) = tt
in_split opts split trees spelled answer (by_rules raw others read spells told) = tt
in_split opts split trees spelled answer (by_model raw others read spells none) =
    subst (TextsIn (Ok (model_of opts raw others, raw.notes))) ((lines_have_one_reading split.rules).one_reading others trees spells spelled)
    (rules_back opts.fold raw.params 1 others (told_parts (first_refusal opts.fold raw.params (rules_terms others)) (length others) none).0)

in_file : (opts : ModelOpts) (bytes : List ℕ) (split : Split) (trees : List RuleTree) → sections_of bytes ≡ Ok split → Spell split.rules trees
    → (answer : Answer) → IsAnswerOf opts bytes answer → TextsIn answer trees
in_file opts bytes split trees sections spelled answer (by_sections told) = tt
in_file opts bytes split trees sections spelled answer (in_sections other is_other is) =
    in_split opts other trees (subst (λ (cut : Split). Spell cut.rules trees) (one_ok sections is_other) spelled) answer is

pub texts_are_of_the_file : TextsAreOfTheFile
texts_are_of_the_file opts bytes split trees m notes sections spelled is = in_file opts bytes split trees sections spelled (Ok (m, notes)) is
