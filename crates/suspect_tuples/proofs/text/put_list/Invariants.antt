use Rattle.std.proofs.Common.{take}
use Rattle.std.specs.List.{flat_map}
use Rattle.row_text.specs.Buffering.{Adds}
use Rattle.suspect_tuples.specs.believed.SuspectsText.{suspect_line}
use Rattle.suspect_tuples.specs.Told.{found_seen}
use Rattle.suspect_tuples.proofs.text.put_list.Given as goal

abbrev pub invariant-loop-found : goal.invariant-loop-found
invariant-loop-found g l =
    let state = g.O.Sink.seen in
    Adds l.fn.lines (state l.fn.out) l.lines (state l.out) (flat_map (λ found. suspect_line (found_seen found)) (take l.found-index l.list))
