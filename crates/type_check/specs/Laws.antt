-- What holds of the answers of files. (This project's rules.)
use Rattle.std.specs.Prelude.{◌≡◌, ◌≢◌, ℕ, List, Err}
use Rattle.cov_model.specs.believed.Sound.{IsSound, ModelView}
use Rattle.model_lex.specs.declared.fault.ModelFault.TheVariants.{NoMemory}
use Rattle.model_lex.specs.declared.note.Note.{Note}
use Rattle.model_lex.specs.declared.options.ModelOpts.{ModelOpts}
use Rattle.model_parse.specs.RawModels.{AreOpts}
use Rattle.type_check.specs.believed.ModelOf.{Answer, IsAnswerOf, IsModelOf}

-- there is one answer and no other, and it isn't that memory is wanting
pub record HasOneAnswer (opts : ModelOpts) (bytes : List ℕ) : Type 0 where
  pub answer : Answer
  pub is : IsAnswerOf opts bytes answer
  pub only : (other : Answer) → IsAnswerOf opts bytes other → other ≡ answer
  pub told : answer ≢ Err NoMemory

-- each file has exactly one answer, whatever the options, the bytes and their number
abbrev pub FilesHaveOneAnswer : Type 0
FilesHaveOneAnswer = (opts : ModelOpts) (bytes : List ℕ) → HasOneAnswer opts bytes

-- the model of a file is sound, under options whose marks are marks and differ, and whose order isn't 0
abbrev pub ModelsAreSound : Type 0
ModelsAreSound = (opts : ModelOpts) (bytes : List ℕ) (m : ModelView) (notes : List Note) → AreOpts opts → IsModelOf opts bytes m notes → IsSound m
