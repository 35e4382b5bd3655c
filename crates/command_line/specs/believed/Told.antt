-- What a run tells on standard error. (This project's rules.)
use Rattle.std.specs.Prelude.{ℕ, List, [], ◌++◌, Option, Some, None, Result, Ok, Err}
use Rattle.std.specs.List.{flat_map}
use Rattle.outside_io.specs.declared.answers.WriteAnswer.{WriteAnswer}
use Rattle.outside_io.specs.believed.Seen.{SinkSeen}
use Rattle.outside_io.specs.believed.Puts.{Puts}
use Rattle.model_lex.specs.believed.Codes.{note_code, note_text}
use Rattle.model_lex.specs.declared.note.Note.{Note}
use Rattle.definitions.specs.believed.Diagnostics.{model_note_line, row_note_line, used_seed_line}
use Rattle.command_line.specs.declared.stop.Stop.{Stop}
use Rattle.command_line.specs.believed.Stops.{NamesView, line_of, status_of}

-- the line of a seed that no word gave
abbrev pub seed_text : Option ℕ → List ℕ
seed_text None = []
seed_text (Some seed) = used_seed_line seed

-- the lines of notes on the model file, and on the file of rows
abbrev pub note_line : Note → List ℕ
note_line note = model_note_line note.line (note_code note.code) (note_text note.code)

abbrev pub notes_text : List Note → List ℕ
notes_text notes = flat_map note_line notes

abbrev pub row_note : Note → List ℕ
row_note note = row_note_line note.line (note_code note.code) (note_text note.code)

abbrev pub row_notes_text : List Note → List ℕ
row_notes_text notes = flat_map row_note notes

-- the line of the stop, if there is one, where the files have these names
abbrev pub end_text : {A : Type 0} → NamesView → Result A Stop → List ℕ
end_text names (Ok whole) = []
end_text names (Err stop) = line_of stop names

-- the lines of a run in their order
abbrev pub told_text : Option ℕ → List Note → List Note → NamesView → Result (Unit {0}) Stop → List ℕ
told_text seed notes row_notes names end = seed_text seed ++ (notes_text notes ++ (row_notes_text row_notes ++ end_text names end))

-- a sink was asked for a text: it has the whole text, or a prefix of it where its count of faults rose
abbrev pub Tells : SinkSeen → SinkSeen → List ℕ → Type 0
Tells before after text = (answer : WriteAnswer) × Puts answer before after text

-- the status of a run: 0 where it came to its end, else that of its stop
abbrev pub end_status : Result (Unit {0}) Stop → ℕ
end_status (Ok done) = 0
end_status (Err stop) = status_of stop
