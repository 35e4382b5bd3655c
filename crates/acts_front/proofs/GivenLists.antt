-- What is known of the parameters, the relations and the constraints of a file that isn't refused.
use Rattle.std.proofs.Common.{◌≡◌, ℕ, ◌+◌, Bool, true, false, List, [], ◌∷◌, ◌++◌, flat_map, map, All, refl, sym, ap, subst, ◌∙◌, append_assoc, append-nil}
use Rattle.std.proofs.lemmas.Bool.{false≢true}
use Rattle.std.proofs.lemmas.List.Elements.{All-cons, All-nil}
use Rattle.model_lex.specs.declared.line_kind.LineKind.{LineKind}
use Rattle.model_lex.specs.declared.line_kind.LineKind.TheVariants.{Param, Group, Rule}
use Rattle.acts_front.specs.believed.ParameterLines.{Declared, Parameter, Scope}
use Rattle.acts_front.specs.believed.Tokens.{Token}
use Rattle.acts_front.specs.believed.Constraints.{Constraint}
use Rattle.acts_front.specs.believed.ActsFiles.{Line, Nothing, OfParameter, OfRelation, OfConstraint, constraints_from, declared_by, parameters_from, relations_from}
use Rattle.acts_front.proofs.Given.{IsParameter, IsRelation}
use Rattle.acts_front.proofs.GivenLines.{AreGiven, AreOrdered, IsConstraint}

-- the constraints with their tokens
abbrev pub spelled_from : ℕ → List Line → List (ℕ × (List Token × Constraint))
spelled_from number [] = []
spelled_from number (Nothing ∷ lines) = spelled_from (number + 1) lines
spelled_from number (OfParameter param ∷ lines) = spelled_from (number + 1) lines
spelled_from number (OfRelation relation ∷ lines) = spelled_from (number + 1) lines
spelled_from number (OfConstraint tokens constraint ∷ lines) = (number, (tokens, constraint)) ∷ spelled_from (number + 1) lines

pub constraints_are : (number : ℕ) (lines : List Line) → constraints_from number lines ≡ map (λ c. (c.0, c.1.1)) (spelled_from number lines)
constraints_are number [] = refl
constraints_are number (Nothing ∷ lines) = constraints_are (number + 1) lines
constraints_are number (OfParameter param ∷ lines) = constraints_are (number + 1) lines
constraints_are number (OfRelation relation ∷ lines) = constraints_are (number + 1) lines
constraints_are number (OfConstraint tokens constraint ∷ lines) = ap (λ list. (number, constraint) ∷ list) (constraints_are (number + 1) lines)

-- a scope with these parameters
abbrev pub scope_of : Bool → List Declared → Scope
scope_of fold params = record { fold = fold; params = params }

abbrev pub declared_as : ℕ × Parameter → Declared
declared_as found = record { name = found.1.name; kind = found.1.kind }

-- what lines declare
pub declared_are : (number : ℕ) (lines : List Line) → flat_map declared_by lines ≡ map declared_as (parameters_from number lines)
declared_are number [] = refl
declared_are number (Nothing ∷ lines) = declared_are (number + 1) lines
declared_are number (OfParameter param ∷ lines) = ap (λ list. record { name = param.name; kind = param.kind } ∷ list) (declared_are (number + 1) lines)
declared_are number (OfRelation relation ∷ lines) = declared_are (number + 1) lines
declared_are number (OfConstraint tokens constraint ∷ lines) = declared_are (number + 1) lines

-- behind a relation or a constraint nothing is declared
abbrev is_param : LineKind → Bool
is_param Param = true
is_param Group = false
is_param Rule = false

none_declared : (before : LineKind) (lines : List Line) → is_param before ≡ false → AreOrdered before lines → flat_map declared_by lines ≡ []
none_declared before [] other ordered = refl
none_declared before (Nothing ∷ lines) other ordered = none_declared before lines other ordered
none_declared before (OfParameter param ∷ lines) other ordered = absurd (false≢true (sym other ∙ ap is_param ordered.0))
none_declared before (OfRelation relation ∷ lines) other ordered = none_declared Group lines refl ordered.1
none_declared before (OfConstraint tokens constraint ∷ lines) other ordered = none_declared Rule lines refl ordered

module _ (fold : Bool) where
  -- what earlier lines declare, and later ones
  regrouped : (params : List Declared) (line : Line) (lines : List Line)
      → scope_of fold ((params ++ declared_by line) ++ flat_map declared_by lines) ≡ scope_of fold (params ++ flat_map declared_by (line ∷ lines))
  regrouped params line lines = ap (scope_of fold) (append_assoc params (declared_by line) (flat_map declared_by lines))

  -- where nothing is declared any more, all is declared
  whole : (before : LineKind) (params : List Declared) (lines : List Line) → is_param before ≡ false → AreOrdered before lines
      → scope_of fold params ≡ scope_of fold (params ++ ([] ++ flat_map declared_by lines))
  whole before params lines other ordered =
      ap (scope_of fold) (sym (append-nil params)) ∙ ap (λ list. scope_of fold (params ++ ([] ++ list))) (sym (none_declared before lines other ordered))

  -- relations and constraints are known behind all parameters
  pub relations_known : (number : ℕ) (params : List Declared) (before : LineKind) (lines : List Line) → AreGiven (scope_of fold params) lines → AreOrdered before lines
      → All (λ found. IsRelation (scope_of fold (params ++ flat_map declared_by lines)) found.1) (relations_from number lines)
  relations_known number params before [] given ordered = All-nil _
  relations_known number params before (Nothing ∷ lines) given ordered =
      subst (λ scope. All (λ found. IsRelation scope found.1) (relations_from (number + 1) lines)) (regrouped params Nothing lines)
      (relations_known (number + 1) (params ++ []) before lines given.1 ordered)
  relations_known number params before (OfParameter param ∷ lines) given ordered =
      subst (λ scope. All (λ found. IsRelation scope found.1) (relations_from (number + 1) lines)) (regrouped params (OfParameter param) lines)
      (relations_known (number + 1) (params ++ declared_by (OfParameter param)) Param lines given.1 ordered.1)
  relations_known number params before (OfRelation relation ∷ lines) given ordered =
      All-cons (λ found. IsRelation (scope_of fold (params ++ flat_map declared_by (OfRelation relation ∷ lines))) found.1) (number, relation) (relations_from (number + 1) lines)
      (subst (λ scope. IsRelation scope relation) (whole Group params lines refl ordered.1) given.0)
      (subst (λ scope. All (λ found. IsRelation scope found.1) (relations_from (number + 1) lines)) (regrouped params (OfRelation relation) lines)
      (relations_known (number + 1) (params ++ []) Group lines given.1 ordered.1))
  relations_known number params before (OfConstraint tokens constraint ∷ lines) given ordered =
      subst (λ scope. All (λ found. IsRelation scope found.1) (relations_from (number + 1) lines)) (regrouped params (OfConstraint tokens constraint) lines)
      (relations_known (number + 1) (params ++ []) Rule lines given.1 ordered)

  abbrev pub IsSpelled : Scope → ℕ × (List Token × Constraint) → Type 0
  IsSpelled scope found = IsConstraint scope found.1.0 found.1.1

  pub constraints_known : (number : ℕ) (params : List Declared) (before : LineKind) (lines : List Line) → AreGiven (scope_of fold params) lines → AreOrdered before lines
      → All (IsSpelled (scope_of fold (params ++ flat_map declared_by lines))) (spelled_from number lines)
  constraints_known number params before [] given ordered = All-nil _
  constraints_known number params before (Nothing ∷ lines) given ordered =
      subst (λ scope. All (IsSpelled scope) (spelled_from (number + 1) lines)) (regrouped params Nothing lines)
      (constraints_known (number + 1) (params ++ []) before lines given.1 ordered)
  constraints_known number params before (OfParameter param ∷ lines) given ordered =
      subst (λ scope. All (IsSpelled scope) (spelled_from (number + 1) lines)) (regrouped params (OfParameter param) lines)
      (constraints_known (number + 1) (params ++ declared_by (OfParameter param)) Param lines given.1 ordered.1)
  constraints_known number params before (OfRelation relation ∷ lines) given ordered =
      subst (λ scope. All (IsSpelled scope) (spelled_from (number + 1) lines)) (regrouped params (OfRelation relation) lines)
      (constraints_known (number + 1) (params ++ []) Group lines given.1 ordered.1)
  constraints_known number params before (OfConstraint tokens constraint ∷ lines) given ordered =
      All-cons (IsSpelled (scope_of fold (params ++ flat_map declared_by (OfConstraint tokens constraint ∷ lines)))) (number, (tokens, constraint)) (spelled_from (number + 1) lines)
      (subst (λ scope. IsSpelled scope (number, (tokens, constraint))) (whole Rule params lines refl ordered) given.0)
      (subst (λ scope. All (IsSpelled scope) (spelled_from (number + 1) lines)) (regrouped params (OfConstraint tokens constraint) lines)
      (constraints_known (number + 1) (params ++ []) Rule lines given.1 ordered))

  -- each parameter is known behind those before it
  abbrev pub AreParameters : List Declared → List (ℕ × Parameter) → Type 0
  AreParameters params [] = Unit {0}
  AreParameters params (found ∷ others) = IsParameter (scope_of fold params) found.1 × AreParameters (params ++ declared_as found ∷ []) others

  pub parameters_known : (number : ℕ) (params : List Declared) (lines : List Line) → AreGiven (scope_of fold params) lines → AreParameters params (parameters_from number lines)
  parameters_known number params [] given = tt
  parameters_known number params (Nothing ∷ lines) given =
      subst (λ list. AreParameters list (parameters_from (number + 1) lines)) (append-nil params) (parameters_known (number + 1) (params ++ []) lines given.1)
  parameters_known number params (OfParameter param ∷ lines) given = (given.0, parameters_known (number + 1) (params ++ declared_by (OfParameter param)) lines given.1)
  parameters_known number params (OfRelation relation ∷ lines) given =
      subst (λ list. AreParameters list (parameters_from (number + 1) lines)) (append-nil params) (parameters_known (number + 1) (params ++ []) lines given.1)
  parameters_known number params (OfConstraint tokens constraint ∷ lines) given =
      subst (λ list. AreParameters list (parameters_from (number + 1) lines)) (append-nil params) (parameters_known (number + 1) (params ++ []) lines given.1)
