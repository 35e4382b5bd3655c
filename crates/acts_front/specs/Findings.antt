-- What is found of a part of a constraint: the worst of what is found of its terms.
use Rattle.std.specs.Prelude.{◌&&◌, ◌||◌, List, ℕ, Option, Some, None, not, if◌then◌else◌}
use Rattle.cov_model.specs.declared.constraint.Rel.{Rel}
use Rattle.acts_front.specs.believed.ParameterLines.{Scope}
use Rattle.acts_front.specs.believed.Constraints.{Constraint, Plain, Implies, Operand, Pred, Preds, Compares, Negated, Each, Either, End, More, is_known, is_order, is_same_kind, is_typed}
use Rattle.acts_front.specs.declared.kind.Kind.{Kind}
use Rattle.acts_front.specs.declared.kind.Kind.TheVariants.{Int}
use Rattle.acts_front.specs.declared.code.ActsCode.{ActsCode}
use Rattle.acts_front.specs.declared.code.ActsCode.TheVariants.{A9, A10, A11}
use Rattle.acts_front.specs.declared.constraint.Finding.{Finding}
use Rattle.acts_front.specs.declared.constraint.Finding.TheVariants.{Fits, TypesDiffer, UnknownName, Broken}

abbrev pub worse : Finding → Finding → Finding
worse Fits other = other
worse TypesDiffer Fits = TypesDiffer
worse TypesDiffer TypesDiffer = TypesDiffer
worse TypesDiffer UnknownName = UnknownName
worse TypesDiffer Broken = Broken
worse UnknownName Fits = UnknownName
worse UnknownName TypesDiffer = UnknownName
worse UnknownName UnknownName = UnknownName
worse UnknownName Broken = Broken
worse Broken other = Broken

abbrev pub term_finding : Scope → List ℕ → Rel → Operand → Finding
term_finding scope name rel operand =
    if not (is_known scope name rel operand) then UnknownName
    else if not (is_typed scope name rel operand) then TypesDiffer
    else Fits

-- the same by the types of what is compared
abbrev pub kinds_finding : Option Kind → Rel → Option Kind → Finding
kinds_finding (Some kind) rel (Some other) =
    if is_same_kind (Some kind) (Some other) && (not (is_order rel) || is_same_kind (Some kind) (Some Int)) then Fits else TypesDiffer
kinds_finding (Some kind) rel None = UnknownName
kinds_finding None rel other = UnknownName

abbrev mutual
  pub pred_finding : Scope → Pred → Finding
  pred_finding scope (Compares name rel operand) = term_finding scope name rel operand
  pred_finding scope (Negated pred) = pred_finding scope pred
  pred_finding scope (Each preds) = preds_finding scope preds
  pred_finding scope (Either preds) = preds_finding scope preds

  pub preds_finding : Scope → Preds → Finding
  preds_finding scope End = Fits
  preds_finding scope (More pred preds) = worse (pred_finding scope pred) (preds_finding scope preds)

-- of tokens that may spell nothing
abbrev pub finding_in : Scope → Option Pred → Finding
finding_in scope (Some pred) = pred_finding scope pred
finding_in scope None = Broken

abbrev pub finding_of : Scope → Option Constraint → Finding
finding_of scope (Some (Plain pred)) = pred_finding scope pred
finding_of scope (Some (Implies premise pred)) = worse (pred_finding scope premise) (pred_finding scope pred)
finding_of scope None = Broken

-- the code of what is found
abbrev pub code_of : Finding → Option ActsCode
code_of Fits = None
code_of TypesDiffer = Some A11
code_of UnknownName = Some A10
code_of Broken = Some A9
