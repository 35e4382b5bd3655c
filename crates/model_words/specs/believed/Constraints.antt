-- The text of a constraint of a model, with the names of its parameters. (The language is that of PICT's guide; which of
-- its spellings is written is this project's rule.)
use Rattle.std.specs.Prelude.{ℕ, List, map}
use Rattle.cov_model.specs.declared.constraint.Literal as literals
use Rattle.cov_model.specs.declared.constraint.Literal.TheVariants as literal
use Rattle.cov_model.specs.declared.constraint.Rel as rels
use Rattle.cov_model.specs.declared.constraint.Rel.TheVariants as rel
use Rattle.cov_model.specs.declared.constraint.Term as terms
use Rattle.cov_model.specs.declared.constraint.Term.TheVariants as term
use Rattle.cov_model.specs.declared.parameter.Param.{Param}
use Rattle.cov_model.specs.believed.Sound.{param_at}
use Rattle.cov_model.specs.believed.Views as views
use Rattle.cov_model.specs.believed.Views.{BodyView, PredView, PredViews, RuleView}
use Rattle.constraint_ast.specs.believed.RuleText.{rule_text}
use Rattle.constraint_ast.specs.believed.Trees.{Tree, Trees, Leaf, Negated, Each, Either, End, More, BodyTree, Plain, IfThen, IfElse, RuleTree}
use Rattle.constraint_ast.specs.declared.tree.RawRel.{RawRel}
use Rattle.constraint_ast.specs.declared.tree.RawRel.TheVariants.{Eq, Ne, Gt, Ge, Lt, Le}
use Rattle.constraint_ast.specs.declared.tree.RawLiteral.{RawLiteral}
use Rattle.constraint_ast.specs.declared.tree.RawLiteral.TheVariants.{Number, Words}
use Rattle.constraint_ast.specs.declared.tree.RawTerm.{RawTerm}
use Rattle.constraint_ast.specs.declared.tree.RawTerm.TheVariants.{ValueIs, ParamIs, OneOf, Like, Negative, Positive}

-- the relation, the literal and the term that are read as these
abbrev pub rel_spelled : rels.Rel → RawRel
rel_spelled rel.Eq = Eq
rel_spelled rel.Ne = Ne
rel_spelled rel.Gt = Gt
rel_spelled rel.Ge = Ge
rel_spelled rel.Lt = Lt
rel_spelled rel.Le = Le

abbrev pub literal_spelled : literals.Literal → RawLiteral
literal_spelled (literal.Number n) = Number n
literal_spelled (literal.Words text) = Words text

abbrev pub name_at : List Param → ℕ → List ℕ
name_at params p = (param_at params p).name

abbrev pub term_spelled : List Param → terms.Term → RawTerm
term_spelled params (term.ValueIs p relation value) = ValueIs (name_at params p) (rel_spelled relation) (literal_spelled value)
term_spelled params (term.ParamIs p relation q) = ParamIs (name_at params p) (rel_spelled relation) (name_at params q)
term_spelled params (term.OneOf p values) = OneOf (name_at params p) (map literal_spelled values)
term_spelled params (term.Like p pattern) = Like (name_at params p) pattern
term_spelled params (term.Negative p) = Negative (name_at params p)
term_spelled params (term.Positive p) = Positive (name_at params p)

-- the tree that is read as a predicate; the lines of its terms are not kept
abbrev mutual
  pub pred_spelled : List Param → PredView → Tree
  pred_spelled params (views.Leaf term) = Leaf 0 (term_spelled params term)
  pred_spelled params (views.Negated pred) = Negated (pred_spelled params pred)
  pred_spelled params (views.Each preds) = Each (preds_spelled params preds)
  pred_spelled params (views.Either preds) = Either (preds_spelled params preds)

  pub preds_spelled : List Param → PredViews → Trees
  preds_spelled params views.End = End
  preds_spelled params (views.More pred preds) = More (pred_spelled params pred) (preds_spelled params preds)

abbrev pub body_spelled : List Param → BodyView → BodyTree
body_spelled params (views.Plain pred) = Plain (pred_spelled params pred)
body_spelled params (views.IfThen premise pred) = IfThen (pred_spelled params premise) (pred_spelled params pred)
body_spelled params (views.IfElse premise pred other) = IfElse (pred_spelled params premise) (pred_spelled params pred) (pred_spelled params other)

abbrev pub rule_spelled : List Param → RuleView → RuleTree
rule_spelled params rule = record { line = rule.line; body = body_spelled params rule.body }

-- the text of a constraint
abbrev pub rule_words : List Param → RuleView → List ℕ
rule_words params rule = rule_text (rule_spelled params rule)
