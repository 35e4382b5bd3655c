use Rattle.std.proofs.Common.{◌++◌}
use Rattle.outside_io.proofs.PutsLaws.{Puts-stopped}
use Rattle.command_line.specs.believed.Told.{end_text, notes_text, row_notes_text, seed_text}
use Rattle.command_line.proofs.PutTold.{Puts-second, Puts-three}
use Rattle.command_line.proofs.told.tell.Goals as goal

pub returns-in-Failed : goal.returns-in-Failed
returns-in-Failed g c =
    Puts-stopped (g.E.Sink.seen c.args.sink.now) (g.E.Sink.seen c.put_seed.new.sink)
    (seed_text c.args.seed) (notes_text c.args.notes.now ++ (row_notes_text c.args.row_notes.now ++ end_text c.args.names.now c.args.end.now)) c.in-Failed.ensures

pub returns-in-Done-put_notes : goal.returns-in-Done-put_notes
returns-in-Done-put_notes g c =
    Puts-three c.put_rows_end.result
    (g.E.Sink.seen c.args.sink.now) (g.E.Sink.seen c.put_seed.new.sink) (g.E.Sink.seen c.put_notes.new.sink) (g.E.Sink.seen c.put_rows_end.new.sink)
    (seed_text c.args.seed) (notes_text c.args.notes.now) (row_notes_text c.args.row_notes.now ++ end_text c.args.names.now c.args.end.now)
    c.in-Done.ensures c.in-Done-put_notes.ensures c.put_rows_end.ensures

pub returns-in-Failed-put_notes : goal.returns-in-Failed-put_notes
returns-in-Failed-put_notes g c =
    Puts-second (g.E.Sink.seen c.args.sink.now) (g.E.Sink.seen c.put_seed.new.sink) (g.E.Sink.seen c.put_notes.new.sink)
    (seed_text c.args.seed) (notes_text c.args.notes.now) (row_notes_text c.args.row_notes.now ++ end_text c.args.names.now c.args.end.now)
    c.in-Done.ensures c.in-Failed-put_notes.ensures
