use Rattle.outside_io.proofs.PutsLaws.{Puts-stopped, Puts-then}
use Rattle.command_line.specs.believed.Told.{end_text, row_notes_text}
use Rattle.command_line.proofs.told.put_rows_end.Goals as goal

pub returns-in-Done : goal.returns-in-Done
returns-in-Done g c =
    Puts-then c.put_end.result (g.E.Sink.seen c.args.sink.now) (g.E.Sink.seen c.put_notes.new.sink) (g.E.Sink.seen c.put_end.new.sink)
    (row_notes_text c.args.notes.now) (end_text c.args.names.now c.args.end.now) c.in-Done.ensures c.put_end.ensures.puts

pub returns-in-Failed : goal.returns-in-Failed
returns-in-Failed g c =
    Puts-stopped (g.E.Sink.seen c.args.sink.now) (g.E.Sink.seen c.put_notes.new.sink)
    (row_notes_text c.args.notes.now) (end_text c.args.names.now c.args.end.now) c.in-Failed.ensures
