-- What a model file is read as: a model with its notes, or a refusal. (PICT's guide; the ACTS guide for
-- relations; the order of the refusals is this project's rule.)
use Rattle.std.specs.Prelude.{◌≡◌, ℕ, List, Some, None, Result, Ok, Err}
use Rattle.cov_model.specs.believed.Sound.{ModelView}
use Rattle.model_lex.specs.believed.Sections.{Split, sections_of}
use Rattle.model_lex.specs.declared.diag.Diag.{Diag}
use Rattle.model_lex.specs.declared.fault.ModelFault.{ModelFault}
use Rattle.model_lex.specs.declared.fault.ModelFault.TheVariants.{Bad, BadRule}
use Rattle.model_lex.specs.declared.note.Note.{Note}
use Rattle.model_lex.specs.declared.options.ModelOpts.{ModelOpts}
use Rattle.model_parse.specs.believed.RawModels.{raw_model_of}
use Rattle.model_parse.specs.declared.raw_model.RawModel.{RawModel}
use Rattle.constraint_ast.specs.believed.Lexing.{Spell, AreRefused}
use Rattle.constraint_ast.specs.believed.Trees.{RuleTree}
use Rattle.type_check.specs.believed.Constraints.{rules_fault, rules_from}

-- a model with its notes, or a refusal
abbrev pub Answer : Type 0
Answer = Result (ModelView × List Note) ModelFault

-- the model of parameters and groups with the constraints of trees
abbrev pub model_of : ModelOpts → RawModel → List RuleTree → ModelView
model_of opts raw trees = record {
  params = raw.params;
  rules = rules_from 1 opts.fold raw.params trees;
  demand = raw.demand;
  prefix = opts.marks.prefix;
  fold = opts.fold;
}

-- the answer of the sections of a file: the refusal of the first that is refused of their parameters and
-- groups, the grammar of their constraints, the terms and the number of those; else the model
pub data IsAnswerIn (opts : ModelOpts) (split : Split) : Answer → Type 0 where
  by_params : {fault : ModelFault} → raw_model_of opts split ≡ Err fault → IsAnswerIn opts split (Err fault)
  by_grammar : {diag : Diag} (raw : RawModel) → raw_model_of opts split ≡ Ok raw → AreRefused split.rules diag → IsAnswerIn opts split (Err (BadRule diag))
  by_rules :
      {fault : ModelFault} (raw : RawModel) (trees : List RuleTree)
      → raw_model_of opts split ≡ Ok raw → Spell split.rules trees → rules_fault opts.fold raw.params trees ≡ Some fault → IsAnswerIn opts split (Err fault)
  by_model :
      (raw : RawModel) (trees : List RuleTree)
      → raw_model_of opts split ≡ Ok raw → Spell split.rules trees → rules_fault opts.fold raw.params trees ≡ None
      → IsAnswerIn opts split (Ok (model_of opts raw trees, raw.notes))

-- the answer of a file: the refusal of its sections, or else their answer
pub data IsAnswerOf (opts : ModelOpts) (bytes : List ℕ) : Answer → Type 0 where
  by_sections : {diag : Diag} → sections_of bytes ≡ Err diag → IsAnswerOf opts bytes (Err (Bad diag))
  in_sections : {answer : Answer} (split : Split) → sections_of bytes ≡ Ok split → IsAnswerIn opts split answer → IsAnswerOf opts bytes answer

-- a file spells this model with these notes, or it is refused so
abbrev pub IsModelOf : ModelOpts → List ℕ → ModelView → List Note → Type 0
IsModelOf opts bytes m notes = IsAnswerOf opts bytes (Ok (m, notes))

abbrev pub IsRefusalOf : ModelOpts → List ℕ → ModelFault → Type 0
IsRefusalOf opts bytes fault = IsAnswerOf opts bytes (Err fault)
