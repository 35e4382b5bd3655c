-- The constraints that trees spell compare like with like, so the model of a file is sound.
use Rattle.std.proofs.Common.{◌≡◌, ◌<◌, ◌+◌, ℕ, zero, suc, Bool, true, false, not, List, [], ◌∷◌, ◌++◌}
use Rattle.std.proofs.Common.{Option, Some, None, length, map, get_or, All, refl, ap, sym, subst, ◌∙◌, arith}
use Rattle.std.specs.Prelude.{Result, Ok, Err}
use Rattle.std.specs.List.{list_all}
use Rattle.std.proofs.lemmas.Bool.{not-true}
use Rattle.std.proofs.lemmas.Grind.{common_steps}
use Rattle.std.proofs.lemmas.List.Elements.{All-cons, All-map, All-nil}
use Rattle.std.proofs.lemmas.List.Quantifiers.{position-Some}
use Rattle.std.proofs.lemmas.List.Sums.{AllPass-from_list_all}
use Rattle.cov_model.specs.believed.Sound.{IsLiteralOf, IsSound, IsSoundBody, IsSoundPred, AreSoundPreds, IsSoundTerm, no_param, param_at}
use Rattle.cov_model.specs.declared.parameter.Param.{Param}
use Rattle.cov_model.specs.believed.Views.{RuleView}
use Rattle.cov_model.specs.declared.constraint.Term as terms
use Rattle.cov_model.specs.declared.constraint.Term.TheVariants as term
use Rattle.model_lex.specs.declared.diag.DiagCode.{DiagCode}
use Rattle.model_lex.specs.declared.diag.DiagCode.TheVariants.{UnknownParameter, TypeMismatch, LikeNeedsText}
use Rattle.value_text.specs.believed.Texts.{is_same_text}
use Rattle.value_text.proofs.ListLemmas.{ok-err, one_ok}
use Rattle.constraint_ast.specs.believed.Trees.{Tree, Trees, Leaf, Negated, Each, Either, End, More, BodyTree, Plain, IfThen, IfElse, RuleTree}
use Rattle.constraint_ast.specs.declared.tree.RawLiteral.{RawLiteral}
use Rattle.constraint_ast.specs.declared.tree.RawLiteral.TheVariants.{Number, Words}
use Rattle.constraint_ast.specs.declared.tree.RawTerm.{RawTerm}
use Rattle.constraint_ast.specs.declared.tree.RawTerm.TheVariants.{ValueIs, ParamIs, OneOf, Like, Negative, Positive}
use Rattle.type_check.specs.believed.Checking.{body_terms, first_refusal, given_that, is_of_type, is_same_type, literal_of, numeric_at}
use Rattle.type_check.specs.believed.Checking.{param_named, term_refusal_or, rel_of, rules_terms, term_of, terms_in, terms_of, with_param}
use Rattle.model_lex.specs.declared.options.ModelOpts.{ModelOpts}
use Rattle.model_parse.specs.RawModels.{AreOpts, IsSoundRaw}
use Rattle.model_parse.specs.declared.raw_model.RawModel.{RawModel}
use Rattle.type_check.specs.believed.Constraints.{body_of, found_term, pred_of, preds_of, rule_of, rules_fault, rules_from}
use Rattle.type_check.specs.believed.ModelOf.{model_of}
use Rattle.type_check.proofs.Refusals.{no_diag, none_parts}
use Rattle.type_check.proofs.RuleLists.{told_parts}

-- what a term that isn't refused has met
met_of : (met : Bool) (code : DiagCode) (found term : terms.Term) → given_that met code found ≡ Ok term → (met ≡ true) × (found ≡ term)
met_of true code found term e = (refl, one_ok {r = given_that true code found} refl e)
met_of false code found term e = absurd (ok-err term code e refl)

found_of : (place : Option ℕ) (of : ℕ → Result terms.Term DiagCode) (term : terms.Term) → with_param place of ≡ Ok term → (p : ℕ) × (place ≡ Some p) × (of p ≡ Ok term)
found_of (Some p) of term e = (p, refl, e)
found_of None of term e = absurd (ok-err term UnknownParameter e refl)

literal_fits : (param : Param) (value : RawLiteral) → is_of_type param.numeric value ≡ true → IsLiteralOf param (literal_of value)
literal_fits param (Number n) e = e
literal_fits param (Words text) e = grind (arith, common_steps)

literals_fit : (param : Param) (values : List RawLiteral) → list_all (is_of_type param.numeric) values ≡ true → All (IsLiteralOf param) (map literal_of values)
literals_fit param values e =
    All-map (IsLiteralOf param) literal_of values (λ k d within. literal_fits param (get_or values k d) (AllPass-from_list_all (is_of_type param.numeric) values e k d within))

same_types : (a b : Bool) → is_same_type a b ≡ true → a ≡ b
same_types true true e = refl
same_types true false e = sym e
same_types false true e = e
same_types false false e = refl

module _ (fold : Bool) (params : List Param) where
  within : (name : List ℕ) (p : ℕ) → param_named fold params name ≡ Some p → p < length params
  within name p e = (position-Some (λ param. is_same_text fold name param.name) params p no_param e).0

  -- a term that isn't refused is sound
  term_sound : (raw : RawTerm) (found : terms.Term) → term_of fold params raw ≡ Ok found → IsSoundTerm params found
  term_sound (ValueIs name relation value) found e =
      let at = found_of (param_named fold params name) _ found e in
      let met = met_of (is_of_type (numeric_at params at.0) value) TypeMismatch (term.ValueIs at.0 (rel_of relation) (literal_of value)) found at.2 in
      subst (IsSoundTerm params) met.1 (within name at.0 at.1, literal_fits (param_at params at.0) value met.0)
  term_sound (ParamIs name relation other) found e =
      let at = found_of (param_named fold params name) _ found e in
      let second = found_of (param_named fold params other) _ found at.2 in
      let met = met_of (is_same_type (numeric_at params at.0) (numeric_at params second.0)) TypeMismatch (term.ParamIs at.0 (rel_of relation) second.0) found second.2 in
      subst (IsSoundTerm params) met.1 (within name at.0 at.1, within other second.0 second.1, same_types (numeric_at params at.0) (numeric_at params second.0) met.0)
  term_sound (OneOf name values) found e =
      let at = found_of (param_named fold params name) _ found e in
      let met = met_of (list_all (is_of_type (numeric_at params at.0)) values) TypeMismatch (term.OneOf at.0 (map literal_of values)) found at.2 in
      subst (IsSoundTerm params) met.1 (within name at.0 at.1, literals_fit (param_at params at.0) values met.0)
  term_sound (Like name pattern) found e =
      let at = found_of (param_named fold params name) _ found e in
      let met = met_of (not (numeric_at params at.0)) LikeNeedsText (term.Like at.0 pattern) found at.2 in
      subst (IsSoundTerm params) met.1 (within name at.0 at.1, not-true (numeric_at params at.0) met.0)
  term_sound (Negative name) found e =
      let at = found_of (param_named fold params name) _ found e in
      subst (IsSoundTerm params) (one_ok {x = term.Negative at.0} refl at.2) (within name at.0 at.1)
  term_sound (Positive name) found e =
      let at = found_of (param_named fold params name) _ found e in
      subst (IsSoundTerm params) (one_ok {x = term.Positive at.0} refl at.2) (within name at.0 at.1)

  leaf_sound : (line : ℕ) (raw : RawTerm) (read : Result terms.Term DiagCode) → term_of fold params raw ≡ read → term_refusal_or line read None ≡ None → IsSoundTerm params (found_term read)
  leaf_sound line raw (Ok found) is none = term_sound raw found is
  leaf_sound line raw (Err code) is none = no_diag (record { line = line; code = code }) none

  -- so are a predicate and a constraint of whose terms none is refused
  mutual
    pred_sound : (tree : Tree) → first_refusal fold params (terms_of tree) ≡ None → IsSoundPred params (pred_of fold params tree)
    pred_sound (Leaf line raw) none = leaf_sound line raw (term_of fold params raw) refl none
    pred_sound (Negated tree) none = pred_sound tree none
    pred_sound (Each trees) none = preds_sound trees none
    pred_sound (Either trees) none = preds_sound trees none

    preds_sound : (trees : Trees) → first_refusal fold params (terms_in trees) ≡ None → AreSoundPreds params (preds_of fold params trees)
    preds_sound End none = tt
    preds_sound (More tree trees) none =
        let parts = none_parts fold params (terms_of tree) (terms_in trees) none in (pred_sound tree parts.0, preds_sound trees parts.1)

  body_sound : (tree : BodyTree) → first_refusal fold params (body_terms tree) ≡ None → IsSoundBody params (body_of fold params tree)
  body_sound (Plain tree) none = pred_sound tree none
  body_sound (IfThen tree next) none =
      let parts = none_parts fold params (terms_of tree) (terms_of next) none in (pred_sound tree parts.0, pred_sound next parts.1)
  body_sound (IfElse tree next last) none =
      let parts = none_parts fold params (terms_of tree) (terms_of next ++ terms_of last) none in
      let rest = none_parts fold params (terms_of next) (terms_of last) parts.1 in
      (pred_sound tree parts.0, pred_sound next rest.0, pred_sound last rest.1)

  -- and the constraints of trees, which are as many as the trees and numbered in order
  rules_sound : (count : ℕ) (trees : List RuleTree) → first_refusal fold params (rules_terms trees) ≡ None → All (λ rule. IsSoundBody params rule.body) (rules_from count fold params trees)
  rules_sound count [] none = All-nil (λ rule. IsSoundBody params rule.body)
  rules_sound count (tree ∷ trees) none =
      let parts = none_parts fold params (body_terms tree.body) (rules_terms trees) none in
      All-cons (λ r. IsSoundBody params r.body) (rule_of fold params count tree) (rules_from (count + 1) fold params trees) (body_sound tree.body parts.0)
      (rules_sound (count + 1) trees parts.1)

  as_many_rules : (count : ℕ) (trees : List RuleTree) → length (rules_from count fold params trees) ≡ length trees
  as_many_rules count [] = refl
  as_many_rules count (tree ∷ trees) = ap suc (as_many_rules (count + 1) trees)

  rules_numbered : (count : ℕ) (trees : List RuleTree) (i : ℕ) (d : RuleView)
      → i < length (rules_from count fold params trees) → (get_or (rules_from count fold params trees) i d).number ≡ i + count
  rules_numbered count (tree ∷ trees) zero d inside = omega arith
  rules_numbered count (tree ∷ trees) (suc i) d inside = rules_numbered (count + 1) trees i d (omega (arith, inside)) ∙ omega arith
  rules_numbered count [] i d inside = absurd (omega (arith, inside))

-- the model of a raw model and its trees is sound
pub model_sound :
    (opts : ModelOpts) (raw : RawModel) (trees : List RuleTree) → AreOpts opts → IsSoundRaw opts raw
    → rules_fault opts.fold raw.params trees ≡ None → IsSound (model_of opts raw trees)
model_sound opts raw trees given sound none =
    let parts = told_parts (first_refusal opts.fold raw.params (rules_terms trees)) (length trees) none in
    record {
      some = sound.some;
      few = sound.few;
      params = sound.params;
      distinct = sound.distinct;
      prefix = given.marks.prefix;
      few_rules = omega (arith, parts.1, as_many_rules opts.fold raw.params 1 trees);
      numbered = rules_numbered opts.fold raw.params 1 trees;
      rules = rules_sound opts.fold raw.params 1 trees parts.0;
      demand = sound.demand;
    }
