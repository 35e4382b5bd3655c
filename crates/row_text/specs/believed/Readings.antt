-- What the reading of a row file answers: exactly the reading of the definition, or its fault. Want of memory
-- is the one answer that says nothing. (PICT's guide for seed files; the faults are this project's rules.)
use Rattle.std.specs.Prelude.{ℕ}
use Rattle.model_lex.specs.declared.note.Note.{Note}
use Rattle.model_lex.specs.declared.note.NoteCode.{NoteCode}
use Rattle.model_lex.specs.declared.note.NoteCode.TheVariants as kinds
use Rattle.definitions.specs.believed.RowReading as defined
use Rattle.definitions.specs.believed.RowReading.{RowNote}

-- the code of a note, and the note as the program holds it
abbrev pub code_of : RowNote → NoteCode
code_of defined.UnknownColumn = kinds.UnknownColumn
code_of defined.UnknownValue = kinds.UnknownValue

abbrev pub note_told : ℕ × RowNote → Note
note_told note = record { line = note.0; code = code_of note.1 }
