-- Each file has exactly one answer: each pass answers in one way, by a function of the sections, of the
-- parameters and groups, and of the one reading of the constraint lines.
use Rattle.std.proofs.Common.{◌≡◌, ◌≢◌, refl, ℕ, List, Option, Some, None, inl, inr, IfOk, sym, ap, subst, ◌∙◌}
use Rattle.std.specs.Prelude.{◌⊎◌, Result, Ok, Err, IfErr}
use Rattle.cov_model.specs.believed.Sound.{IsSound, ModelView}
use Rattle.model_lex.specs.believed.Sections.{Split, sections_of}
use Rattle.model_lex.specs.Sections.{Splits}
use Rattle.model_lex.specs.declared.diag.Diag.{Diag}
use Rattle.model_lex.specs.declared.fault.ModelFault.{ModelFault}
use Rattle.model_lex.specs.declared.fault.ModelFault.TheVariants.{Bad, BadRule, Limit, NoMemory}
use Rattle.model_lex.specs.declared.note.Note.{Note}
use Rattle.model_lex.specs.declared.options.ModelOpts.{ModelOpts}
use Rattle.model_parse.specs.RawModels.{AreOpts, IsSoundRaw}
use Rattle.model_parse.specs.believed.RawModels.{raw_model_of}
use Rattle.model_parse.specs.declared.raw_model.RawModel.{RawModel}
use Rattle.model_parse.proofs.Refusing.{raw_refusal}
use Rattle.model_parse.proofs.SoundGroups.{raw_ok}
use Rattle.value_text.proofs.ListLemmas.{one_ok}
use Rattle.constraint_ast.specs.believed.Lexing.{AreRefused, Spell}
use Rattle.constraint_ast.specs.believed.Trees.{RuleTree}
use Rattle.constraint_ast.proofs.OneReading.{lines_have_one_reading}
use Rattle.type_check.specs.believed.Constraints.{rules_fault}
use Rattle.type_check.specs.Laws.{FilesHaveOneAnswer, ModelsAreSound}
use Rattle.type_check.specs.believed.ModelOf.{Answer, IsAnswerIn, IsAnswerOf, IsModelOf, IsRefusalOf, by_grammar, by_model, by_params, by_rules, by_sections, in_sections, model_of}
use Rattle.type_check.proofs.RuleLists.{rules_refusal}
use Rattle.type_check.proofs.Soundness.{model_sound}

-- lines spell trees, or they are refused
abbrev Lines : List (ℕ × List ℕ) → Type 0
Lines lines = ((trees : List RuleTree) × Spell lines trees) ⊎ ((diag : Diag) × AreRefused lines diag)

module _ (opts : ModelOpts) where
  abbrev of_rules : RawModel → List RuleTree → Option ModelFault → Answer
  of_rules raw trees (Some fault) = Err fault
  of_rules raw trees None = Ok (model_of opts raw trees, raw.notes)

  abbrev of_trees : RawModel → List RuleTree → Answer
  of_trees raw trees = of_rules raw trees (rules_fault opts.fold raw.params trees)

  abbrev of_lines : (raw : RawModel) (lines : List (ℕ × List ℕ)) → Lines lines → Answer
  of_lines raw lines (inl (trees, spelled)) = of_trees raw trees
  of_lines raw lines (inr (diag, refused)) = Err (BadRule diag)

  abbrev of_raw : Split → Result RawModel ModelFault → Answer
  of_raw split (Ok raw) = of_lines raw split.rules (lines_have_one_reading split.rules).some_reading
  of_raw split (Err fault) = Err fault

  abbrev of_sections : Result Split Diag → Answer
  of_sections (Ok split) = of_raw split (raw_model_of opts split)
  of_sections (Err diag) = Err (Bad diag)

  -- what they give is an answer
  module _ (split : Split) where
    rules_answer :
        (raw : RawModel) (trees : List RuleTree) (found : Option ModelFault)
        → raw_model_of opts split ≡ Ok raw → Spell split.rules trees → rules_fault opts.fold raw.params trees ≡ found
        → IsAnswerIn opts split (of_rules raw trees found)
    rules_answer raw trees (Some fault) read spelled told = by_rules raw trees read spelled told
    rules_answer raw trees None read spelled none = by_model raw trees read spelled none

    lines_answer : (raw : RawModel) (lines : Lines split.rules) → raw_model_of opts split ≡ Ok raw → IsAnswerIn opts split (of_lines raw split.rules lines)
    lines_answer raw (inl (trees, spelled)) read = rules_answer raw trees (rules_fault opts.fold raw.params trees) read spelled refl
    lines_answer raw (inr (diag, refused)) read = by_grammar raw read refused

    raw_answer : (found : Result RawModel ModelFault) → raw_model_of opts split ≡ found → IsAnswerIn opts split (of_raw split found)
    raw_answer (Ok raw) read = lines_answer raw (lines_have_one_reading split.rules).some_reading read
    raw_answer (Err fault) told = by_params told

  sections_answer : (bytes : List ℕ) (found : Result Split Diag) → sections_of bytes ≡ found → IsAnswerOf opts bytes (of_sections found)
  sections_answer bytes (Ok split) sections = in_sections split sections (raw_answer split (raw_model_of opts split) refl)
  sections_answer bytes (Err diag) told = by_sections told

  -- and each answer is what they give
  module _ (raw : RawModel) (lines : List (ℕ × List ℕ)) where
    refused_lines : (diag : Diag) → AreRefused lines diag → (read : Lines lines) → Err (BadRule diag) ≡ of_lines raw lines read
    refused_lines diag refused (inl (trees, spelled)) = absurd ((lines_have_one_reading lines).read_or_refused trees diag spelled refused)
    refused_lines diag refused (inr (other, told)) = ap (λ one. Err (BadRule one)) ((lines_have_one_reading lines).one_refusal diag other refused told)

    spelled_lines : (trees : List RuleTree) → Spell lines trees → (read : Lines lines) → of_trees raw trees ≡ of_lines raw lines read
    spelled_lines trees spelled (inl (others, spells)) = ap (of_trees raw) ((lines_have_one_reading lines).one_reading trees others spelled spells)
    spelled_lines trees spelled (inr (diag, refused)) = absurd ((lines_have_one_reading lines).read_or_refused trees diag spelled refused)

  one_in : (split : Split) (answer : Answer) → IsAnswerIn opts split answer → answer ≡ of_raw split (raw_model_of opts split)
  one_in split answer (by_params told) = ap (of_raw split) (sym told)
  one_in split answer (by_grammar raw read refused) =
      refused_lines raw split.rules _ refused (lines_have_one_reading split.rules).some_reading ∙ ap (of_raw split) (sym read)
  one_in split answer (by_rules raw trees read spelled told) =
      ap (of_rules raw trees) (sym told) ∙ (spelled_lines raw split.rules trees spelled (lines_have_one_reading split.rules).some_reading
      ∙ ap (of_raw split) (sym read))
  one_in split answer (by_model raw trees read spelled none) =
      ap (of_rules raw trees) (sym none) ∙ (spelled_lines raw split.rules trees spelled (lines_have_one_reading split.rules).some_reading
      ∙ ap (of_raw split) (sym read))

  one_of : (bytes : List ℕ) (answer : Answer) → IsAnswerOf opts bytes answer → answer ≡ of_sections (sections_of bytes)
  one_of bytes answer (by_sections told) = ap of_sections (sym told)
  one_of bytes answer (in_sections split sections is) = one_in split answer is ∙ ap of_sections (sym sections)

  -- an answer isn't that memory is wanting, and a model is sound
  told_in : (split : Split) (answer : Answer) → IsAnswerIn opts split answer → answer ≢ Err NoMemory
  told_in split answer (by_params told) same = raw_refusal opts split (told ∙ same_err same)
    where
      same_err : {A B E : Type 0} {a b : E} → ◌≡◌ {A = Result A E} (Err a) (Err b) → ◌≡◌ {A = Result B E} (Err a) (Err b)
      same_err e = cc
  told_in split answer (by_grammar raw read refused) same = cc
  told_in split answer (by_rules raw trees read spelled told) same = rules_refusal opts.fold raw.params trees (told ∙ cc)
  told_in split answer (by_model raw trees read spelled none) same = cc

  told_of : (bytes : List ℕ) (answer : Answer) → IsAnswerOf opts bytes answer → answer ≢ Err NoMemory
  told_of bytes answer (by_sections told) same = cc
  told_of bytes answer (in_sections split sections is) same = told_in split answer is same

  sound_in : (split : Split) (answer : Answer) → AreOpts opts → IsAnswerIn opts split answer → IfOk answer (λ read. IsSound read.0)
  sound_in split answer are (by_params told) = tt
  sound_in split answer are (by_grammar raw read refused) = tt
  sound_in split answer are (by_rules raw trees read spelled told) = tt
  sound_in split answer are (by_model raw trees read spelled none) = model_sound opts raw trees are
      (subst (λ found. IfOk found (IsSoundRaw opts)) read (raw_ok opts split are)) none

  sound_of : (bytes : List ℕ) (answer : Answer) → AreOpts opts → IsAnswerOf opts bytes answer → IfOk answer (λ read. IsSound read.0)
  sound_of bytes answer are (by_sections told) = tt
  sound_of bytes answer are (in_sections split sections is) = sound_in split answer are is

pub files_have_one_answer : FilesHaveOneAnswer
files_have_one_answer opts bytes =
    let is = sections_answer opts bytes (sections_of bytes) refl in
    record {
      answer = of_sections opts (sections_of bytes);
      is = is;
      only = one_of opts bytes;
      told = told_of opts bytes
          (of_sections opts (sections_of bytes)) is;
    }

pub models_are_sound : ModelsAreSound
models_are_sound opts bytes m notes are is = sound_of opts bytes (Ok (m, notes)) are is

-- answers of a file are one
pub one_answer : (opts : ModelOpts) (bytes : List ℕ) (answer other : Answer) → IsAnswerOf opts bytes answer → IsAnswerOf opts bytes other → answer ≡ other
one_answer opts bytes answer other is too = one_of opts bytes answer is ∙ sym (one_of opts bytes other too)

pub files_have_one_model :
    (opts : ModelOpts) (bytes : List ℕ) (m other : ModelView) (notes others : List Note) → IsModelOf opts bytes m notes → IsModelOf opts bytes other others
    → (m ≡ other) × (notes ≡ others)
files_have_one_model opts bytes m other notes others is too =
    let same = one_ok {x = (m, notes)} {y = (other, others)} refl (one_answer opts bytes (Ok (m, notes)) (Ok (other, others)) is too) in
    (ap (λ read. read.0) same, ap (λ read. read.1) same)

pub models_are_not_refused : (opts : ModelOpts) (bytes : List ℕ) (m : ModelView) (notes : List Note) (fault : ModelFault)
    → IsModelOf opts bytes m notes → ¬ (IsRefusalOf opts bytes fault)
models_are_not_refused opts bytes m notes fault is refused = let same = one_answer opts bytes (Ok (m, notes)) (Err fault) is refused in cc

pub refusals_are_one : (opts : ModelOpts) (bytes : List ℕ) (fault other : ModelFault) → IsRefusalOf opts bytes fault → IsRefusalOf opts bytes other
    → fault ≡ other
refusals_are_one opts bytes fault other is too = let same = one_answer opts bytes (Err fault) (Err other) is too in cc

-- what a call answers is the file's answer, unless memory was refused
pub answers :
    (opts : ModelOpts) (bytes : List ℕ) (result : Answer)
    → IfOk result (λ read. IsModelOf opts bytes read.0 read.1) → IfErr result (λ fault. fault ≢ NoMemory → IsRefusalOf opts bytes fault)
    → (answer : Answer) → IsAnswerOf opts bytes answer → (result ≡ answer) ⊎ (result ≡ Err NoMemory)
answers opts bytes (Ok read) model refusal answer is = inl (one_answer opts bytes (Ok read) answer model is)
answers opts bytes (Err NoMemory) model refusal answer is = inr refl
answers opts bytes (Err (Bad diag)) model refusal answer is = inl (one_answer opts bytes (Err (Bad diag)) answer (refusal (λ e. cc)) is)
answers opts bytes (Err (BadRule diag)) model refusal answer is = inl (one_answer opts bytes (Err (BadRule diag)) answer (refusal (λ e. cc)) is)
answers opts bytes (Err (Limit limit count)) model refusal answer is = inl (one_answer opts bytes (Err (Limit limit count)) answer (refusal (λ e. cc)) is)

-- what a refusal of the sections of a file says of it, and the answer of its sections
pub sections_refused : (opts : ModelOpts) (bytes : List ℕ) (fault : ModelFault) → Splits (sections_of bytes) (Err fault) → fault ≢ NoMemory
    → IsRefusalOf opts bytes fault
sections_refused opts bytes (Bad diag) told some = by_sections told
sections_refused opts bytes (BadRule diag) told some = absurd told
sections_refused opts bytes (Limit limit count) told some = absurd told
sections_refused opts bytes NoMemory told some = absurd (some refl)

pub model_of_file :
    (opts : ModelOpts) (bytes : List ℕ) (split : Split) (result : Answer) → sections_of bytes ≡ Ok split → IfOk result (λ read. IsAnswerIn opts split (Ok read))
    → IfOk result (λ read. IsModelOf opts bytes read.0 read.1)
model_of_file opts bytes split (Ok read) sections is = in_sections split sections is
model_of_file opts bytes split (Err fault) sections is = tt

pub refusal_of_file :
    (opts : ModelOpts) (bytes : List ℕ) (split : Split) (result : Answer) → sections_of bytes ≡ Ok split
    → IfErr result (λ fault. fault ≢ NoMemory → IsAnswerIn opts split (Err fault)) → IfErr result (λ fault. fault ≢ NoMemory → IsRefusalOf opts bytes fault)
refusal_of_file opts bytes split (Ok read) sections is = tt
refusal_of_file opts bytes split (Err fault) sections is = λ some. in_sections split sections (is some)
