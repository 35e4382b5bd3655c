-- Which model of `pict` says what a file in the form of ACTS says, and that the translation of the file spells no
-- other. (PICT's guide; the ACTS guide; that these say the same is this project's rule.)
use Rattle.std.specs.Prelude.{◌≡◌, ℕ, Bool, List, Ok}
use Rattle.model_lex.specs.declared.options.OrderWord.{OrderWord}
use Rattle.type_check.specs.believed.ModelOf.{Answer, IsAnswerOf}
use Rattle.acts_front.specs.believed.ActsFiles.{Line, acts}
use Rattle.acts_front.specs.believed.Translation.{lines_text}
use Rattle.acts_front.specs.believed.SameModels.{read_as, Says}

-- the answer of the translation of a file
abbrev pub TranslationsSayTheSame : Type 0
TranslationsSayTheSame = (fold : Bool) (bytes : List ℕ) (lines : List Line) → acts fold bytes ≡ Ok lines
    → (order : OrderWord) (answer : Answer) → IsAnswerOf (read_as order fold) (lines_text lines) answer → Says (read_as order fold) lines answer
