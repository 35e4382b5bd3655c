-- The text of a constraint of a model is that of the tree that the model file spells. (The language is that of PICT's
-- guide; which of its spellings is written is this project's rule.)
use Rattle.std.specs.Prelude.{◌≡◌, ℕ, Bool, List, map, Option, Some, None, Ok}
use Rattle.cov_model.specs.declared.parameter.Param.{Param}
use Rattle.cov_model.specs.believed.Sound.{ModelView}
use Rattle.model_lex.specs.believed.Sections.{Split, sections_of}
use Rattle.model_lex.specs.declared.note.Note.{Note}
use Rattle.model_lex.specs.declared.options.ModelOpts.{ModelOpts}
use Rattle.constraint_ast.specs.believed.Lexing.{Spell}
use Rattle.constraint_ast.specs.believed.RuleText.{rule_text}
use Rattle.constraint_ast.specs.believed.Trees.{Tree, Trees, Leaf, Negated, Each, Either, End, More, BodyTree, Plain, IfThen, IfElse, RuleTree}
use Rattle.constraint_ast.specs.declared.tree.RawTerm.{RawTerm}
use Rattle.constraint_ast.specs.declared.tree.RawTerm.TheVariants.{ValueIs, ParamIs, OneOf, Like, Negative, Positive}
use Rattle.type_check.specs.believed.Checking.{param_named}
use Rattle.type_check.specs.believed.ModelOf.{IsModelOf}
use Rattle.model_words.specs.believed.Constraints.{name_at, rule_words}

-- a name as the parameter of that name is declared, if there is one: they may differ in case
abbrev pub declared_or : List Param → List ℕ → Option ℕ → List ℕ
declared_or params name None = name
declared_or params name (Some p) = name_at params p

abbrev pub declared_name : Bool → List Param → List ℕ → List ℕ
declared_name fold params name = declared_or params name (param_named fold params name)

-- a tree with such names
abbrev pub declared_term : Bool → List Param → RawTerm → RawTerm
declared_term fold params (ValueIs name relation value) = ValueIs (declared_name fold params name) relation value
declared_term fold params (ParamIs name relation other) = ParamIs (declared_name fold params name) relation (declared_name fold params other)
declared_term fold params (OneOf name values) = OneOf (declared_name fold params name) values
declared_term fold params (Like name pattern) = Like (declared_name fold params name) pattern
declared_term fold params (Negative name) = Negative (declared_name fold params name)
declared_term fold params (Positive name) = Positive (declared_name fold params name)

abbrev mutual
  pub declared_tree : Bool → List Param → Tree → Tree
  declared_tree fold params (Leaf line term) = Leaf line (declared_term fold params term)
  declared_tree fold params (Negated tree) = Negated (declared_tree fold params tree)
  declared_tree fold params (Each trees) = Each (declared_trees fold params trees)
  declared_tree fold params (Either trees) = Either (declared_trees fold params trees)

  pub declared_trees : Bool → List Param → Trees → Trees
  declared_trees fold params End = End
  declared_trees fold params (More tree trees) = More (declared_tree fold params tree) (declared_trees fold params trees)

abbrev pub declared_body : Bool → List Param → BodyTree → BodyTree
declared_body fold params (Plain tree) = Plain (declared_tree fold params tree)
declared_body fold params (IfThen premise tree) = IfThen (declared_tree fold params premise) (declared_tree fold params tree)
declared_body fold params (IfElse premise tree other) =
    IfElse (declared_tree fold params premise) (declared_tree fold params tree) (declared_tree fold params other)

abbrev pub declared_rule : Bool → List Param → RuleTree → RuleTree
declared_rule fold params rule = record { line = rule.line; body = declared_body fold params rule.body }

-- a model file whose constraint lines spell trees has a model the texts of whose constraints are theirs, in order
abbrev pub TextsAreOfTheFile : Type 0
TextsAreOfTheFile = (opts : ModelOpts) (bytes : List ℕ) (split : Split) (trees : List RuleTree) (m : ModelView) (notes : List Note)
    → sections_of bytes ≡ Ok split → Spell split.rules trees → IsModelOf opts bytes m notes
    → map (rule_words m.params) m.rules ≡ map (λ tree. rule_text (declared_rule m.fold m.params tree)) trees
