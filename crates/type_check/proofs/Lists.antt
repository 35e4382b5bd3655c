-- An IN list whose literals aren't all of the parameter's type is refused.
use Rattle.std.proofs.Common.{◌≡◌, ℕ, Bool, false, List, Some, None, ap, sym, subst, ◌∙◌, map}
use Rattle.std.specs.Prelude.{Err}
use Rattle.std.specs.List.{list_all}
use Rattle.cov_model.specs.declared.parameter.Param.{Param}
use Rattle.cov_model.specs.declared.constraint.Term.TheVariants as term
use Rattle.model_lex.specs.declared.diag.DiagCode.TheVariants.{TypeMismatch}
use Rattle.model_lex.specs.declared.fault.ModelFault.{ModelFault}
use Rattle.model_lex.specs.declared.fault.ModelFault.TheVariants.{BadRule}
use Rattle.constraint_ast.specs.Reading.{IfRefused}
use Rattle.constraint_ast.specs.declared.tree.RawLiteral.{RawLiteral}
use Rattle.constraint_ast.specs.declared.tree.RawTerm.TheVariants.{OneOf}
use Rattle.type_check.specs.believed.Checking.{is_of_type, given_that, literal_of, numeric_at, param_named, term_refusal_or, term_of, with_param}

module _ (fold : Bool) (params : List Param) (name : List ℕ) (values : List RawLiteral) (line p : ℕ) where
  differ : param_named fold params name ≡ Some p → list_all (is_of_type (numeric_at params p)) values ≡ false → term_of fold params (OneOf name values) ≡ Err TypeMismatch
  differ found some =
      ap (λ place. with_param place (λ q. given_that (list_all (is_of_type (numeric_at params q)) values) TypeMismatch (term.OneOf q (map literal_of values)))) found
      ∙ ap (λ met. given_that met TypeMismatch (term.OneOf p (map literal_of values))) some

  pub list_refused :
      (fault : ModelFault) → param_named fold params name ≡ Some p → list_all (is_of_type (numeric_at params p)) values ≡ false
      → fault ≡ BadRule (record { line = line; code = TypeMismatch })
      → IfRefused fault (λ diag. term_refusal_or line (term_of fold params (OneOf name values)) None ≡ Some diag)
  list_refused fault found some told =
      subst (λ f. IfRefused f (λ diag. term_refusal_or line (term_of fold params (OneOf name values)) None ≡ Some diag)) (sym told)
      (ap (λ read. term_refusal_or line read None) (differ found some))
