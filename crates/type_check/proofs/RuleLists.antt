-- Constraints as they are gathered from trees, one after another.
use Rattle.std.proofs.Common.{◌≡◌, ◌≢◌, ◌<◌, ◌≤◌, ◌+◌, ℕ, suc, Bool, true, false, List, [], ◌∷◌, ◌++◌, Option, Some, None}
use Rattle.std.proofs.Common.{length, take, drop, map, get_or, if◌then◌else◌, nat_lt, refl, ap, sym, subst, ◌∙◌, arith}
use Rattle.std.proofs.lemmas.Bool.{cond_both, ltb-false}
use Rattle.std.proofs.lemmas.List.{length-append, length-map, length-take-le, map-append, take_more}
use Rattle.std.proofs.lemmas.Grind.{flat_map-append, common_steps}
use Rattle.cov_model.specs.declared.parameter.Param.{Param}
use Rattle.cov_model.specs.declared.constraint.Body.{Body}
use Rattle.cov_model.specs.declared.constraint.Rule.{Rule}
use Rattle.cov_model.specs.Views.{body_view, rule_view}
use Rattle.model_lex.specs.declared.diag.Diag.{Diag}
use Rattle.model_lex.specs.declared.fault.LimitName.TheVariants.{Rules}
use Rattle.model_lex.specs.declared.fault.ModelFault.{ModelFault}
use Rattle.model_lex.specs.declared.fault.ModelFault.TheVariants.{Limit, NoMemory}
use Rattle.constraint_ast.specs.Reading.{IfRefused}
use Rattle.constraint_ast.specs.believed.Trees.{RuleTree}
use Rattle.constraint_ast.specs.Trees.{body_tree, rule_tree}
use Rattle.constraint_ast.specs.declared.tree.RawRule.{RawRule}
use Rattle.type_check.specs.believed.Checking.{body_terms, first_refusal, rules_terms}
use Rattle.type_check.specs.believed.Constraints.{body_of, fault_of, rule_of, rules_fault, rules_from}
use Rattle.type_check.proofs.Refusals.{behind_none, refused_also, split_at, stays}

module _ (fold : Bool) (params : List Param) where
  -- one constraint more
  rule_behind : (count : ℕ) (trees : List RuleTree) (tree : RuleTree)
      → rules_from count fold params (trees ++ tree ∷ []) ≡ rules_from count fold params trees ++ rule_of fold params (count + length trees) tree ∷ []
  rule_behind count [] tree = ap (λ n. rule_of fold params n tree ∷ []) (omega arith)
  rule_behind count (first ∷ trees) tree =
      ap (λ rest. rule_of fold params count first ∷ rest) (rule_behind (count + 1) trees tree
      ∙ ap (λ n. rules_from (count + 1) fold params trees ++ rule_of fold params n tree ∷ []) (omega arith))

  -- what holds of the constraints of the first trees
  pub record SoFar (raw : List RawRule) (i : ℕ) (rules : List Rule) : Type 0 where
    pub as_many : i ≤ 4096 → length rules ≡ i
    pub are : i ≤ 4096 → map rule_view rules ≡ rules_from 1 fold params (map rule_tree (take i raw))
    pub unrefused : first_refusal fold params (rules_terms (map rule_tree (take i raw))) ≡ None

  front_trees : (raw : List RawRule) (i : ℕ) (rule : RawRule) → i < length raw → rule ≡ get_or raw i rule
      → map rule_tree (take (i + 1) raw) ≡ map rule_tree (take i raw) ++ rule_tree rule ∷ []
  front_trees raw i rule within at =
      ap (λ some. map rule_tree some) (take_more raw i rule within ∙ ap (λ x. take i raw ++ x ∷ []) (sym at)) ∙ map-append rule_tree (take i raw) (rule ∷ [])

  -- the constraint of a body with the next number
  abbrev pub numbered : List Rule → ℕ → Body → Rule
  numbered rules line body = record { number = length rules + 1; line = line; body = body }

  is_added : (rules next : List Rule) (rule : Rule) → next ≡ (if nat_lt (length rules) 4096 then rules ++ rule ∷ [] else rules) → length rules < 4096 → next ≡ rules ++ rule ∷ []
  is_added rules next rule e few = grind (arith, common_steps)

  pub rules_next :
      (raw : List RawRule) (i : ℕ) (rule : RawRule) (rules next : List Rule) (body : Body) → i < length raw → rule ≡ get_or raw i rule
      → SoFar raw i rules → body_view body ≡ body_of fold params (body_tree rule.body) → first_refusal fold params (body_terms (body_tree rule.body)) ≡ None
      → next ≡ (if nat_lt (length rules) 4096 then rules ++ numbered rules rule.line body ∷ [] else rules) → SoFar raw (i + 1) next
  rules_next raw i rule rules next body within at so_far is none e =
      let trees = front_trees raw i rule within at in
      let fewer : i + 1 ≤ 4096 → i ≤ 4096 = λ few. omega (arith, few) in
      let longer : i + 1 ≤ 4096 → next ≡ rules ++ numbered rules rule.line body ∷ [] =
      λ few. is_added rules next (numbered rules rule.line body) e (omega (arith, few, so_far.as_many (fewer few))) in
      let seen : next ≡ rules ++ numbered rules rule.line body ∷ [] → map rule_view next ≡ map rule_view rules ++ rule_view (numbered rules rule.line body) ∷ [] =
      λ same. ap (map rule_view) same ∙ map-append rule_view rules (numbered rules rule.line body ∷ []) in
      let same_rule : i + 1 ≤ 4096 → rule_view (numbered rules rule.line body) ≡ rule_of fold params (1 + length (map rule_tree (take i raw))) (rule_tree rule) =
      λ few. ap (λ view. record { number = length rules + 1; line = rule.line; body = view }) is
      ∙ ap (λ n. rule_of fold params n (rule_tree rule)) (omega (arith, so_far.as_many (fewer few), length-map (take i raw) rule_tree, length-take-le i raw (omega (arith, within)))) in
      record {
        as_many = λ few. ap (λ list. length list) (longer few) ∙ (length-append rules (numbered rules rule.line body ∷ []) ∙ ap (λ n. n + 1) (so_far.as_many (fewer few)));
        are = λ few. seen (longer few) ∙ ap (λ views. views ++ rule_view (numbered rules rule.line body) ∷ []) (so_far.are (fewer few))
            ∙ ap (λ view. rules_from 1 fold params (map rule_tree (take i raw)) ++ view ∷ []) (same_rule few)
            ∙ sym (rule_behind 1 (map rule_tree (take i raw)) (rule_tree rule)) ∙ ap (λ some. rules_from 1 fold params some) (sym trees);
        unrefused =
            ap (λ some. first_refusal fold params (rules_terms some)) trees
            ∙ (ap (λ some. first_refusal fold params some) (flat_map-append (λ tree. body_terms tree.body) (map rule_tree (take i raw)) (rule_tree rule ∷ []))
            ∙ (behind_none fold params (rules_terms (map rule_tree (take i raw))) (rules_terms (rule_tree rule ∷ [])) so_far.unrefused
            ∙ (behind_none fold params (body_terms (body_tree rule.body)) [] none)));
      }

  -- the first refusal among constraints, behind some that aren't refused
  behind_rules :
      (front : List RuleTree) (tree : RuleTree) (rest : List RuleTree) (diag : Diag) → first_refusal fold params (rules_terms front) ≡ None
      → first_refusal fold params (body_terms tree.body) ≡ Some diag → first_refusal fold params (rules_terms (front ++ tree ∷ rest)) ≡ Some diag
  behind_rules front tree rest diag none some =
      ap (λ all. first_refusal fold params all) (flat_map-append (λ t. body_terms t.body) front (tree ∷ rest))
      ∙ (behind_none fold params (rules_terms front) (rules_terms (tree ∷ rest)) none ∙ stays fold params (body_terms tree.body) (rules_terms rest) diag some)

  pub rule_refused :
      (raw : List RawRule) (i : ℕ) (rule : RawRule) (rules : List Rule) (fault : ModelFault) → i < length raw → rule ≡ get_or raw i rule → SoFar raw i rules
      → IfRefused fault (λ diag. first_refusal fold params (body_terms (body_tree rule.body)) ≡ Some diag)
      → IfRefused fault (λ diag. first_refusal fold params (rules_terms (map rule_tree raw)) ≡ Some diag)
  rule_refused raw i rule rules fault within at so_far =
      let all : map rule_tree (take i raw) ++ rule_tree rule ∷ map rule_tree (drop (suc i) raw) ≡ map rule_tree raw =
      sym (map-append rule_tree (take i raw) (rule ∷ drop (suc i) raw)) ∙ ap (λ some. map rule_tree some) (split_at raw i rule within at) in
      refused_also fault (λ diag some. subst (λ trees. first_refusal fold params (rules_terms trees) ≡ Some diag) all
      (behind_rules (map rule_tree (take i raw)) (rule_tree rule) (map rule_tree (drop (suc i) raw)) diag so_far.unrefused some))

-- constraints that aren't refused: no term of theirs is, and they are few enough
pub told_parts : (found : Option Diag) (count : ℕ) → fault_of found count ≡ None → (found ≡ None) × (count ≤ 4096)
told_parts (Some diag) count none = cc
told_parts None count none = (refl, at (nat_lt 4096 count) refl none)
  where
    at : (many : Bool) → nat_lt 4096 count ≡ many → (if many then Some (Limit Rules count) else None) ≡ None → count ≤ 4096
    at true is e = cc
    at false is e = ltb-false 4096 count is

-- it is never that memory is wanting
pub rules_refusal : (fold : Bool) (params : List Param) (trees : List RuleTree) → rules_fault fold params trees ≢ Some NoMemory
rules_refusal fold params trees = at (first_refusal fold params (rules_terms trees)) (length trees)
  where
    at : (found : Option Diag) (count : ℕ) → fault_of found count ≢ Some NoMemory
    at (Some diag) count = λ e. cc
    at None count = cond_both (nat_lt 4096 count) (Some (Limit Rules count)) None (λ told. told ≢ Some NoMemory) (λ many e. cc) (λ few e. cc)
