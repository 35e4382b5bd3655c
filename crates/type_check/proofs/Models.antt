-- What the passes answer in the words of the answer of a file.
use Rattle.cov_model.specs.believed.Sound.{ModelView}
use Rattle.cov_model.specs.believed.Views.{RuleView}
use Rattle.std.proofs.Common.{◌≡◌, ◌≢◌, List, None, map, refl, sym, subst}
use Rattle.std.specs.Prelude.{Ok, Err}
use Rattle.cov_model.specs.declared.parameter.Param.{Param}
use Rattle.model_lex.specs.believed.Sections.{Split}
use Rattle.model_lex.specs.declared.fault.ModelFault.{ModelFault}
use Rattle.model_lex.specs.declared.fault.ModelFault.TheVariants.{Bad, BadRule, Limit, NoMemory}
use Rattle.model_lex.specs.declared.options.ModelOpts.{ModelOpts}
use Rattle.model_parse.specs.believed.RawModels.{raw_model_of}
use Rattle.model_parse.specs.declared.raw_model.RawModel.{RawModel}
use Rattle.constraint_ast.specs.believed.Lexing.{AreRefused, Spell}
use Rattle.constraint_ast.specs.Reading.{IfRefused}
use Rattle.constraint_ast.specs.believed.Trees.{RuleTree}
use Rattle.constraint_ast.specs.Trees.{rule_tree}
use Rattle.constraint_ast.specs.declared.tree.RawRule.{RawRule}
use Rattle.type_check.specs.believed.Constraints.{rules_fault}
use Rattle.type_check.specs.believed.ModelOf.{IsAnswerIn, by_grammar, by_model, model_of}

-- what a fault says of a file with these sections, unless memory was refused
abbrev pub Refuses : ModelOpts → Split → ModelFault → Type 0
Refuses opts split fault = fault ≢ NoMemory → IsAnswerIn opts split (Err fault)

-- the grammar of constraint lines refuses a file
pub grammar_refused :
    (opts : ModelOpts) (split : Split) (raw : RawModel) (fault : ModelFault) → raw_model_of opts split ≡ Ok raw → IfRefused fault (AreRefused split.rules)
    → Refuses opts split fault
grammar_refused opts split raw (BadRule diag) read told some = by_grammar raw read told
grammar_refused opts split raw (Bad diag) read told some = absurd told
grammar_refused opts split raw (Limit limit count) read told some = absurd told
grammar_refused opts split raw NoMemory read told some = absurd (some refl)

-- a model that is read
pub model_read :
    (opts : ModelOpts) (split : Split) (raw : RawModel) (trees : List RuleTree) (m : ModelView) → raw_model_of opts split ≡ Ok raw → Spell split.rules trees
    → rules_fault opts.fold raw.params trees ≡ None → m ≡ model_of opts raw trees → IsAnswerIn opts split (Ok (m, raw.notes))
model_read opts split raw trees m read spelled none is = subst (λ some. IsAnswerIn opts split (Ok (some, raw.notes))) (sym is)
    (by_model raw trees read spelled none)

-- the model of these constraints
abbrev pub with_rules : ModelOpts → RawModel → List RuleView → ModelView
with_rules opts raw rules = record { params = raw.params; rules = rules; demand = raw.demand; prefix = opts.marks.prefix; fold = opts.fold }

-- a function of what was read through slices
pub read_through :
    {R : Type 0} {params seen : List Param} {raws listed : List RawRule} (f : List Param → List RuleTree → R)
    → params ≡ seen → raws ≡ listed → f params (map rule_tree raws) ≡ f seen (map rule_tree listed)
read_through f e h = λ i. f (e i) (map rule_tree (h i))
