-- What terms and constraints mean over two parameters, A numeric and B not, computed.
use Rattle.std.proofs.Common.{◌≡◌, true, false, List, [], ◌∷◌, ◌++◌, Some, None, refl}
use Rattle.std.specs.Prelude.{Result, Ok, Err, pos, codes}
use Rattle.model_lex.specs.declared.diag.DiagCode.{DiagCode}
use Rattle.model_lex.specs.declared.diag.DiagCode.TheVariants.{UnknownParameter, TypeMismatch, LikeNeedsText}
use Rattle.model_lex.specs.declared.fault.LimitName.TheVariants.{Rules}
use Rattle.model_lex.specs.declared.fault.ModelFault.TheVariants.{BadRule, Limit}
use Rattle.cov_model.specs.Sample.{sample_params, sample_texts}
use Rattle.cov_model.specs.declared.parameter.Param.{Param}
use Rattle.cov_model.specs.believed.Views as views
use Rattle.cov_model.specs.declared.constraint.Literal.TheVariants as literal
use Rattle.cov_model.specs.declared.constraint.Rel.TheVariants as rel
use Rattle.cov_model.specs.declared.constraint.Term as terms
use Rattle.cov_model.specs.declared.constraint.Term.TheVariants as term
use Rattle.constraint_ast.specs.believed.Trees.{Leaf, Negated, Each, Either, End, More, Trees, Plain, IfThen, IfElse, RuleTree}
use Rattle.constraint_ast.specs.declared.tree.RawRel.TheVariants.{Eq, Ne, Gt, Ge, Lt, Le}
use Rattle.constraint_ast.specs.declared.tree.RawLiteral.TheVariants.{Number, Words}
use Rattle.constraint_ast.specs.declared.tree.RawTerm.{RawTerm}
use Rattle.constraint_ast.specs.declared.tree.RawTerm.TheVariants.{ValueIs, ParamIs, OneOf, Like, Negative, Positive}
use Rattle.type_check.specs.believed.Checking.{term_of, rules_terms, first_refusal}
use Rattle.type_check.specs.believed.Constraints.{fault_of, rules_fault, rules_from}

-- a term, where letters of either case are one
abbrev read : RawTerm → Result terms.Term DiagCode
read raw = term_of true sample_params raw

-- each kind of term, with names in another case
terms_read :
    (read (ValueIs (codes "a") Ge (Number (pos 5))) ≡ Ok (term.ValueIs 0 rel.Ge (literal.Number (pos 5))))
    × (read (ValueIs (codes "b") Ne (Words (codes "z"))) ≡ Ok (term.ValueIs 1 rel.Ne (literal.Words (codes "z"))))
    × (read (ParamIs (codes "B") Lt (codes "b")) ≡ Ok (term.ParamIs 1 rel.Lt 1))
    × (read (OneOf (codes "A") (Number (pos 1) ∷ Number (pos 2) ∷ [])) ≡ Ok (term.OneOf 0 (literal.Number (pos 1) ∷ literal.Number (pos 2) ∷ [])))
    × (read (Like (codes "B") (codes "r*")) ≡ Ok (term.Like 1 (codes "r*"))) × (read (Negative (codes "A")) ≡ Ok (term.Negative 0)) × (read (Positive (codes "B")) ≡ Ok (term.Positive 1))
terms_read = (refl, refl, refl, refl, refl, refl, refl)

-- each relation is the one that is written
relations :
    (read (ValueIs (codes "A") Eq (Number (pos 5))) ≡ Ok (term.ValueIs 0 rel.Eq (literal.Number (pos 5))))
    × (read (ValueIs (codes "A") Gt (Number (pos 5))) ≡ Ok (term.ValueIs 0 rel.Gt (literal.Number (pos 5))))
    × (read (ValueIs (codes "A") Lt (Number (pos 5))) ≡ Ok (term.ValueIs 0 rel.Lt (literal.Number (pos 5))))
    × (read (ValueIs (codes "A") Le (Number (pos 5))) ≡ Ok (term.ValueIs 0 rel.Le (literal.Number (pos 5))))
relations = (refl, refl, refl, refl)

-- a third parameter, C, that isn't numeric: the names of a comparison keep their places
abbrev three : List Param
three = sample_params ++ (record { name = codes "C"; line = 3; numeric = false; values = sample_texts } ∷ [])

compared : (term_of true three (ParamIs (codes "C") Le (codes "B")) ≡ Ok (term.ParamIs 2 rel.Le 1)) × (term_of true three (ParamIs (codes "A") Gt (codes "A")) ≡ Ok (term.ParamIs 0 rel.Gt 0))
compared = (refl, refl)

-- the refusals: the first name, the second, LIKE, and types
refusals :
    (read (ValueIs (codes "Z") Eq (Words [])) ≡ Err UnknownParameter)
    × (read (ParamIs (codes "A") Eq (codes "Z")) ≡ Err UnknownParameter) × (read (ParamIs (codes "A") Eq (codes "B")) ≡ Err TypeMismatch)
    × (read (Like (codes "A") []) ≡ Err LikeNeedsText) × (read (ValueIs (codes "A") Eq (Words (codes "1"))) ≡ Err TypeMismatch)
    × (read (ValueIs (codes "B") Eq (Number (pos 1))) ≡ Err TypeMismatch)
    × (read (OneOf (codes "B") (Words [] ∷ Number (pos 1) ∷ [])) ≡ Err TypeMismatch) × (read (Positive []) ≡ Err UnknownParameter)
    × (read (ParamIs (codes "B") Eq (codes "A")) ≡ Err TypeMismatch) × (read (Like (codes "Z") []) ≡ Err UnknownParameter)
    × (read (OneOf (codes "A") (Number (pos 1) ∷ Words [] ∷ [])) ≡ Err TypeMismatch)
refusals = (refl, refl, refl, refl, refl, refl, refl, refl, refl, refl, refl)

-- where case counts, a is no parameter
case_counts : term_of false sample_params (Negative (codes "a")) ≡ Err UnknownParameter
case_counts = refl

-- a constraint over two lines, and one with refused terms on the lines 5 and 6
abbrev sound : RuleTree
sound = record { line = 3; body = IfElse (Leaf 3 (Negative (codes "A"))) (Negated (Leaf 3 (Like (codes "B") []))) (Leaf 4 (Positive (codes "B"))) }

abbrev refused : RuleTree
refused = record {
  line = 4;
  body = IfThen (Either (More (Leaf 4 (Negative (codes "A"))) (More (Leaf 5 (Like (codes "A") [])) End))) (Leaf 6 (Negative (codes "Z")));
}

-- terms stand from the left, and the first refused one is told at its line
in_order : rules_terms (sound ∷ []) ≡ (3, Negative (codes "A")) ∷ (3, Like (codes "B") []) ∷ (4, Positive (codes "B")) ∷ []
in_order = refl

in_order_within : rules_terms (refused ∷ []) ≡ (4, Negative (codes "A")) ∷ (5, Like (codes "A") []) ∷ (6, Negative (codes "Z")) ∷ []
in_order_within = refl

no_refusal : first_refusal true sample_params (rules_terms (sound ∷ [])) ≡ None
no_refusal = refl

first_refused : first_refusal true sample_params (rules_terms (sound ∷ refused ∷ sound ∷ [])) ≡ Some (record { line = 5; code = LikeNeedsText })
first_refused = refl

-- the constraint that a tree spells, with its number
numbered :
    rules_from 1 true sample_params (sound ∷ [])
    ≡ record {
      number = 1;
      line = 3;
      body = views.IfElse (views.Leaf (term.Negative 0)) (views.Negated (views.Leaf (term.Like 1 [])))
          (views.Leaf (term.Positive 1));
    } ∷ []
numbered = refl

-- a refused term is told, and constraints whose terms aren't refused are few enough
no_fault : rules_fault true sample_params (sound ∷ []) ≡ None
no_fault = refl

term_fault : rules_fault true sample_params (sound ∷ refused ∷ sound ∷ []) ≡ Some (BadRule (record { line = 5; code = LikeNeedsText }))
term_fault = refl

-- one more than the most is too many, and a refused term comes before that
number_fault : fault_of None 4097 ≡ Some (Limit Rules 4097)
number_fault = refl

term_first : fault_of (Some (record { line = 5; code = LikeNeedsText })) 4097 ≡ Some (BadRule (record { line = 5; code = LikeNeedsText }))
term_first = refl

most_rules : fault_of None 4096 ≡ None
most_rules = refl

-- two constraints on the lines 3 and 5: their numbers rise, and each predicate has the shape of its tree
abbrev alone : RuleTree
alone = record { line = 3; body = Plain (Leaf 3 (Negative (codes "B"))) }

abbrev first_trees : Trees
first_trees = More (Leaf 5 (Negative (codes "A"))) (More (Leaf 5 (Positive (codes "B"))) End)

abbrev last_trees : Trees
last_trees = More (Leaf 6 (Positive (codes "A"))) (More (Leaf 6 (Negative (codes "B"))) End)

abbrev first_preds : views.PredViews
first_preds = views.More (views.Leaf (term.Negative 0)) (views.More (views.Leaf (term.Positive 1)) views.End)

abbrev last_preds : views.PredViews
last_preds = views.More (views.Leaf (term.Positive 0)) (views.More (views.Leaf (term.Negative 1)) views.End)

in_shape :
    rules_from 1 true sample_params (alone ∷ record { line = 5; body = IfThen (Each first_trees) (Either last_trees) } ∷ [])
    ≡ record { number = 1; line = 3; body = views.Plain (views.Leaf (term.Negative 1)) }
    ∷ record { number = 2; line = 5; body = views.IfThen (views.Each first_preds) (views.Either last_preds) } ∷ []
in_shape = refl
