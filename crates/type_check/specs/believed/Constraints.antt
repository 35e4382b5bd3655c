-- Which constraints of a model the trees of a model file spell, and why they are refused. (PICT's guide;
-- the order of the refusals is this project's rule.)
use Rattle.std.specs.Prelude.{ℕ, ◌+◌, Bool, List, [], ◌∷◌, length, Option, Some, None, Result, Ok, Err, nat_lt, if◌then◌else◌}
use Rattle.cov_model.specs.declared.parameter.Param.{Param}
use Rattle.cov_model.specs.declared.constraint.Term as terms
use Rattle.cov_model.specs.declared.constraint.Term.TheVariants as term
use Rattle.cov_model.specs.believed.Views as views
use Rattle.cov_model.specs.believed.Views.{PredView, PredViews, BodyView, RuleView}
use Rattle.model_lex.specs.believed.Codes.{most_of}
use Rattle.model_lex.specs.declared.diag.Diag.{Diag}
use Rattle.model_lex.specs.declared.diag.DiagCode.{DiagCode}
use Rattle.model_lex.specs.declared.fault.LimitName.TheVariants.{Rules}
use Rattle.model_lex.specs.declared.fault.ModelFault.{ModelFault}
use Rattle.model_lex.specs.declared.fault.ModelFault.TheVariants.{BadRule, Limit}
use Rattle.constraint_ast.specs.believed.Trees.{Tree, Trees, Leaf, Negated, Each, Either, End, More, BodyTree, Plain, IfThen, IfElse, RuleTree}
use Rattle.type_check.specs.believed.Checking.{first_refusal, rules_terms, term_of}

-- the term that a raw term is, and any term where it is refused
abbrev pub found_term : Result terms.Term DiagCode → terms.Term
found_term (Ok found) = found
found_term (Err code) = term.Negative 0

-- the predicate that a tree is over these parameters, where none of its terms is refused
abbrev mutual
  pub pred_of : Bool → List Param → Tree → PredView
  pred_of fold params (Leaf line raw) = views.Leaf (found_term (term_of fold params raw))
  pred_of fold params (Negated tree) = views.Negated (pred_of fold params tree)
  pred_of fold params (Each trees) = views.Each (preds_of fold params trees)
  pred_of fold params (Either trees) = views.Either (preds_of fold params trees)

  pub preds_of : Bool → List Param → Trees → PredViews
  preds_of fold params End = views.End
  preds_of fold params (More tree trees) = views.More (pred_of fold params tree) (preds_of fold params trees)

abbrev pub body_of : Bool → List Param → BodyTree → BodyView
body_of fold params (Plain tree) = views.Plain (pred_of fold params tree)
body_of fold params (IfThen tree next) = views.IfThen (pred_of fold params tree) (pred_of fold params next)
body_of fold params (IfElse tree next last) = views.IfElse (pred_of fold params tree) (pred_of fold params next) (pred_of fold params last)

abbrev pub rule_of : Bool → List Param → ℕ → RuleTree → RuleView
rule_of fold params count tree = record { number = count; line = tree.line; body = body_of fold params tree.body }

-- the constraints of trees in order, numbered from here on
abbrev pub rules_from : ℕ → Bool → List Param → List RuleTree → List RuleView
rules_from count fold params [] = []
rules_from count fold params (tree ∷ trees) = rule_of fold params count tree ∷ rules_from (count + 1) fold params trees

-- why constraints are refused, so many: a term of theirs is, else they are too many
abbrev pub fault_of : Option Diag → ℕ → Option ModelFault
fault_of (Some diag) count = Some (BadRule diag)
fault_of None count = if nat_lt (most_of Rules) count then Some (Limit Rules count) else None

abbrev pub rules_fault : Bool → List Param → List RuleTree → Option ModelFault
rules_fault fold params trees = fault_of (first_refusal fold params (rules_terms trees)) (length trees)
