-- What a run tells on standard error. (This project's rules.)
use Rattle.std.specs.Prelude.{ℕ, List, ◌++◌, codes, decimal}
use Rattle.model_lex.specs.believed.Codes.{note_code, note_text}
use Rattle.model_lex.specs.declared.note.Note.{Note}

-- the line of a note on either file, by the text before the line's number
abbrev pub line_behind : List ℕ → Note → List ℕ
line_behind opening note = opening ++ decimal note.line ++ codes ": " ++ note_code note.code ++ codes " " ++ note_text note.code ++ codes "\n"
