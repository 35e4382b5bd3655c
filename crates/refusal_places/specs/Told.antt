-- What is told of a refusal. (This project's rules.)
use Rattle.std.specs.Prelude.{◌≡◌, ℕ, Bool, true, List, ◌++◌, codes, decimal}
use Rattle.std.specs.List.{list_all}
use Rattle.cov_model.specs.believed.Names.{is_plain}
use Rattle.model_lex.specs.believed.Codes.{diag_code}
use Rattle.model_lex.specs.declared.diag.Diag.{Diag}
use Rattle.model_lex.specs.declared.diag.DiagCode.{DiagCode}
use Rattle.outside_io.specs.declared.answers.WriteAnswer.{WriteAnswer}
use Rattle.outside_io.specs.believed.Puts.{Puts}
use Rattle.outside_io.specs.believed.Seen.{SinkSeen}

-- a line that names a file, a line of it and a code, with words between them
abbrev pub line_of_texts : List ℕ → List ℕ → List ℕ → List ℕ → List ℕ
line_of_texts file line words code = file ++ codes ":" ++ line ++ words ++ codes " [" ++ code ++ codes "]\n"

abbrev pub refusal_line : List ℕ → ℕ → List ℕ → DiagCode → List ℕ
refusal_line file line words code = line_of_texts file (decimal line) words (diag_code code)

-- no control character of ASCII stands in a text
abbrev pub is_clean : List ℕ → Bool
is_clean text = list_all is_plain text

-- a sink was asked for the line of a refusal of a file: its words are free, but for control characters
abbrev pub TellsRefusal : List ℕ → Diag → WriteAnswer → SinkSeen → SinkSeen → Type 0
TellsRefusal file diag answer before after =
    (words : List ℕ) × (is_clean words ≡ true) × Puts answer before after (refusal_line file diag.line words diag.code)
