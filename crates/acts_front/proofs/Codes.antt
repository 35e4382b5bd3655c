-- Why a constraint is refused, by what is found of it.
use Rattle.std.proofs.Common.{◌≡◌, Bool, true, false, not, ◌&&◌, List, Option, Some, None, Ok, Err, refl, sym, ap, ◌∙◌}
use Rattle.std.specs.Prelude.{if◌then◌else◌}
use Rattle.acts_front.specs.believed.ParameterLines.{Scope}
use Rattle.acts_front.specs.believed.Tokens.{Token}
use Rattle.acts_front.specs.believed.Constraints.{Constraint, Plain, Implies, Pred, Preds, Compares, Negated, Each, Either, End, More, constraint_code, each_term, every_term, is_known, is_typed, terms_pass}
use Rattle.acts_front.specs.believed.ActsFiles.{OfConstraint, spelled_line, unless_refused}
use Rattle.acts_front.specs.Findings.{code_of, finding_of, pred_finding, preds_finding, worse}
use Rattle.acts_front.specs.declared.code.ActsCode.{ActsCode}
use Rattle.acts_front.specs.declared.code.ActsCode.TheVariants.{A9, A10, A11}
use Rattle.acts_front.specs.declared.constraint.Finding.{Finding}
use Rattle.acts_front.specs.declared.constraint.Finding.TheVariants.{Fits, TypesDiffer, UnknownName}

-- what is found where all names are known or not, and all types fit or not
abbrev by_tests : Bool → Bool → Finding
by_tests known typed = if not known then UnknownName else if not typed then TypesDiffer else Fits

worse_is : (known typed more_known more_typed : Bool) → worse (by_tests known typed) (by_tests more_known more_typed) ≡ by_tests (known && more_known) (typed && more_typed)
worse_is true true more_known more_typed = refl
worse_is true false true true = refl
worse_is true false true false = refl
worse_is true false false more_typed = refl
worse_is false typed true true = refl
worse_is false typed true false = refl
worse_is false typed false more_typed = refl

module _ (scope : Scope) where
  mutual
    pred_found : (pred : Pred) → pred_finding scope pred ≡ by_tests (each_term (is_known scope) pred) (each_term (is_typed scope) pred)
    pred_found (Compares name rel operand) = refl
    pred_found (Negated pred) = pred_found pred
    pred_found (Each preds) = preds_found preds
    pred_found (Either preds) = preds_found preds

    preds_found : (preds : Preds) → preds_finding scope preds ≡ by_tests (every_term (is_known scope) preds) (every_term (is_typed scope) preds)
    preds_found End = refl
    preds_found (More pred preds) =
        ap (λ found. worse found (preds_finding scope preds)) (pred_found pred)
        ∙ (ap (worse (by_tests (each_term (is_known scope) pred) (each_term (is_typed scope) pred))) (preds_found preds)
        ∙ worse_is (each_term (is_known scope) pred) (each_term (is_typed scope) pred) (every_term (is_known scope) preds) (every_term (is_typed scope) preds))

  constraint_found : (constraint : Constraint) → finding_of scope (Some constraint) ≡ by_tests (terms_pass (is_known scope) constraint) (terms_pass (is_typed scope) constraint)
  constraint_found (Plain pred) = pred_found pred
  constraint_found (Implies premise pred) =
      ap (λ found. worse found (pred_finding scope pred)) (pred_found premise)
      ∙ (ap (worse (by_tests (each_term (is_known scope) premise) (each_term (is_typed scope) premise))) (pred_found pred)
      ∙ worse_is (each_term (is_known scope) premise) (each_term (is_typed scope) premise) (each_term (is_known scope) pred) (each_term (is_typed scope) pred))

  code_by_tests : (known typed : Bool) → code_of (by_tests known typed) ≡ (if not known then Some A10 else if not typed then Some A11 else None)
  code_by_tests true true = refl
  code_by_tests true false = refl
  code_by_tests false typed = refl

  code_is : (constraint : Constraint) → code_of (finding_of scope (Some constraint)) ≡ constraint_code scope constraint
  code_is constraint = ap code_of (constraint_found constraint) ∙ code_by_tests (terms_pass (is_known scope) constraint) (terms_pass (is_typed scope) constraint)

  pub spelled_refused : (tokens : List Token) (spelled : Option Constraint) (code : ActsCode) → code_of (finding_of scope spelled) ≡ Some code → spelled_line scope tokens spelled ≡ Err code
  spelled_refused tokens (Some constraint) code is = ap (λ c. unless_refused c (OfConstraint tokens constraint)) (sym (code_is constraint) ∙ is)
  spelled_refused tokens None code is = let same : Some A9 ≡ Some code = is in cc

  pub spelled_fits : (tokens : List Token) (spelled : Option Constraint) → code_of (finding_of scope spelled) ≡ None
      → (constraint : Constraint) × (spelled_line scope tokens spelled ≡ Ok (OfConstraint tokens constraint))
  spelled_fits tokens (Some constraint) is = (constraint, ap (λ c. unless_refused c (OfConstraint tokens constraint)) (sym (code_is constraint) ∙ is))
  spelled_fits tokens None is = absurd (none is)
    where
      none : Some A9 ≡ None → ⊥
      none same = cc
