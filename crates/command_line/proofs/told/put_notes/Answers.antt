use Rattle.std.proofs.Common.{◌∙◌, refl}
use Rattle.std.specs.Prelude.{slice_index_or}
use Rattle.model_lex.specs.declared.note.Note.{Note}
use Rattle.model_lex.specs.declared.note.NoteCode.TheVariants.{RepeatedValueName}
use Rattle.command_line.specs.Told.{line_behind}
use Rattle.outside_io.proofs.PieceLemmas.{Puts-failed_at, Puts-piece}
use Rattle.command_line.proofs.told.put_notes.Goals as goal

abbrev no_note : Note
no_note = record { line = 0; code = RepeatedValueName }

pub returns-in-Failed : goal.returns-in-Failed
returns-in-Failed g c =
    Puts-failed_at (line_behind c.args.opening.now) c.args.notes.now c.loop-note.note-index no_note (line_behind c.args.opening.now (slice_index_or c.args.notes.now c.loop-note.note-index no_note))
    (g.E.Sink.seen c.args.sink.now) (g.E.Sink.seen c.loop-note.sink) (g.E.Sink.seen c.put_note.new.sink)
    c.loop-note-test.true refl c.loop-note.invariant c.in-Failed.ensures

pub loop-note-preserved : goal.loop-note-preserved
loop-note-preserved g c =
    Puts-piece (line_behind c.args.opening.now) c.args.notes.now c.loop-note.note-index no_note
    (g.E.Sink.seen c.args.sink.now) (g.E.Sink.seen c.loop-note.sink) (g.E.Sink.seen c.put_note.new.sink)
    c.loop-note-test.true c.loop-note.invariant c.in-Done.ensures
