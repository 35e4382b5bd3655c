use Rattle.std.proofs.Common.{◌≡◌, take}
use Rattle.std.specs.List.{flat_map}
use Rattle.outside_io.specs.declared.answers.WriteAnswer.TheVariants.{Done}
use Rattle.outside_io.specs.believed.Puts.{Puts}
use Rattle.command_line.specs.Told.{line_behind}
use Rattle.command_line.proofs.told.put_notes.Given as goal

abbrev pub invariant-loop-note : goal.invariant-loop-note
invariant-loop-note g l =
    Puts Done (g.E.Sink.seen l.fn.sink) (g.E.Sink.seen l.sink) (flat_map (line_behind l.opening) (take l.note-index l.notes))
