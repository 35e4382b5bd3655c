-- What the terms of a constraint mean over the parameters of a model, or why they are refused.
-- (PICT's guide for what may be compared; the order of the refusals is this project's rule.)
use Rattle.std.specs.Prelude.{ℕ, Bool, not, List, [], ◌∷◌, ◌++◌, map, Option, Some, None, Result, Ok, Err, position, if◌then◌else◌}
use Rattle.std.specs.List.{list_all, flat_map}
use Rattle.value_text.specs.believed.Texts.{is_same_text}
use Rattle.model_lex.specs.declared.diag.Diag.{Diag}
use Rattle.model_lex.specs.declared.diag.DiagCode.{DiagCode}
use Rattle.model_lex.specs.declared.diag.DiagCode.TheVariants.{UnknownParameter, TypeMismatch, LikeNeedsText}
use Rattle.cov_model.specs.believed.Sound.{param_at}
use Rattle.cov_model.specs.declared.parameter.Param.{Param}
use Rattle.cov_model.specs.declared.constraint.Rel as rels
use Rattle.cov_model.specs.declared.constraint.Rel.TheVariants as rel
use Rattle.cov_model.specs.declared.constraint.Literal as literals
use Rattle.cov_model.specs.declared.constraint.Literal.TheVariants as literal
use Rattle.cov_model.specs.declared.constraint.Term as terms
use Rattle.cov_model.specs.declared.constraint.Term.TheVariants as term
use Rattle.constraint_ast.specs.believed.Trees.{Tree, Trees, Leaf, Negated, Each, Either, End, More, BodyTree, Plain, IfThen, IfElse, RuleTree}
use Rattle.constraint_ast.specs.declared.tree.RawRel.{RawRel}
use Rattle.constraint_ast.specs.declared.tree.RawRel.TheVariants.{Eq, Ne, Gt, Ge, Lt, Le}
use Rattle.constraint_ast.specs.declared.tree.RawLiteral.{RawLiteral}
use Rattle.constraint_ast.specs.declared.tree.RawLiteral.TheVariants.{Number, Words}
use Rattle.constraint_ast.specs.declared.tree.RawTerm.{RawTerm}
use Rattle.constraint_ast.specs.declared.tree.RawTerm.TheVariants.{ValueIs, ParamIs, OneOf, Like, Negative, Positive}

-- the number of the parameter of a name under the case rule
abbrev pub param_named : Bool → List Param → List ℕ → Option ℕ
param_named fold params name = position (λ param. is_same_text fold name param.name) params

-- the same relation and the same literal as those of a tree
abbrev pub rel_of : RawRel → rels.Rel
rel_of Eq = rel.Eq
rel_of Ne = rel.Ne
rel_of Gt = rel.Gt
rel_of Ge = rel.Ge
rel_of Lt = rel.Lt
rel_of Le = rel.Le

abbrev pub literal_of : RawLiteral → literals.Literal
literal_of (Number n) = literal.Number n
literal_of (Words text) = literal.Words text

-- whether a literal is of the type of parameters that are numeric, or of those that aren't
abbrev pub is_of_type : Bool → RawLiteral → Bool
is_of_type numeric (Number n) = numeric
is_of_type numeric (Words text) = not numeric

-- whether two parameters are both numeric, or both not
abbrev pub is_same_type : Bool → Bool → Bool
is_same_type numeric other = if numeric then other else not other

-- a term over the parameter of a name, which has to be there
abbrev pub with_param : Option ℕ → (ℕ → Result terms.Term DiagCode) → Result terms.Term DiagCode
with_param (Some p) term = term p
with_param None term = Err UnknownParameter

-- a term where a condition is met, else a refusal
abbrev pub given_that : Bool → DiagCode → terms.Term → Result terms.Term DiagCode
given_that met code term = if met then Ok term else Err code

-- whether a parameter is numeric
abbrev pub numeric_at : List Param → ℕ → Bool
numeric_at params p = (param_at params p).numeric

-- the term that a raw term is over these parameters, or why it is refused: its first name is unknown,
-- its second name is, LIKE is asked of a numeric parameter, or types differ
abbrev pub term_of : Bool → List Param → RawTerm → Result terms.Term DiagCode
term_of fold params (ValueIs name relation value) =
    with_param (param_named fold params name) (λ p. given_that (is_of_type (numeric_at params p) value) TypeMismatch (term.ValueIs p (rel_of relation) (literal_of value)))
term_of fold params (ParamIs name relation other) =
    with_param (param_named fold params name) (λ p.
    with_param (param_named fold params other) (λ q.
    given_that (is_same_type (numeric_at params p) (numeric_at params q)) TypeMismatch (term.ParamIs p (rel_of relation) q)))
term_of fold params (OneOf name values) =
    with_param (param_named fold params name) (λ p. given_that (list_all (is_of_type (numeric_at params p)) values) TypeMismatch (term.OneOf p (map literal_of values)))
term_of fold params (Like name pattern) =
    with_param (param_named fold params name) (λ p. given_that (not (numeric_at params p)) LikeNeedsText (term.Like p pattern))
term_of fold params (Negative name) = with_param (param_named fold params name) (λ p. Ok (term.Negative p))
term_of fold params (Positive name) = with_param (param_named fold params name) (λ p. Ok (term.Positive p))

-- the terms of a predicate from the left, each behind the line of its first token
abbrev mutual
  pub terms_of : Tree → List (ℕ × RawTerm)
  terms_of (Leaf line raw) = (line, raw) ∷ []
  terms_of (Negated tree) = terms_of tree
  terms_of (Each trees) = terms_in trees
  terms_of (Either trees) = terms_in trees

  pub terms_in : Trees → List (ℕ × RawTerm)
  terms_in End = []
  terms_in (More tree trees) = terms_of tree ++ terms_in trees

-- those of a constraint, and those of a list of constraints
abbrev pub body_terms : BodyTree → List (ℕ × RawTerm)
body_terms (Plain tree) = terms_of tree
body_terms (IfThen premise tree) = terms_of premise ++ terms_of tree
body_terms (IfElse premise tree other) = terms_of premise ++ (terms_of tree ++ terms_of other)

abbrev pub rules_terms : List RuleTree → List (ℕ × RawTerm)
rules_terms trees = flat_map (λ tree. body_terms tree.body) trees

-- why a term of a line is refused, or else why something else is
abbrev pub term_refusal_or : ℕ → Result terms.Term DiagCode → Option Diag → Option Diag
term_refusal_or line (Err code) otherwise = Some (record { line = line; code = code })
term_refusal_or line (Ok found) otherwise = otherwise

-- the first refusal among terms
abbrev pub first_refusal : Bool → List Param → List (ℕ × RawTerm) → Option Diag
first_refusal fold params [] = None
first_refusal fold params (raw ∷ rest) = term_refusal_or raw.0 (term_of fold params raw.1) (first_refusal fold params rest)
