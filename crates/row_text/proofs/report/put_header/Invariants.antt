use Rattle.std.proofs.Common.{map, take}
use Rattle.std.specs.List.{join_with_byte}
use Rattle.row_text.specs.Buffering.{Adds}
use Rattle.row_text.proofs.report.put_header.Given as goal

abbrev pub invariant-loop-place : goal.invariant-loop-place
invariant-loop-place g l =
    let state = g.O.Sink.seen in
    Adds l.fn.buffer (state l.fn.out) l.buffer (state l.out) (join_with_byte 9 (take l.place (map (λ param. param.name) l.model.params)))
