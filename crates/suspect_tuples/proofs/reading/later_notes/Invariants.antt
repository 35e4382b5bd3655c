use Rattle.std.proofs.Common.{◌≡◌, take}
use Rattle.suspect_tuples.proofs.reading.later_notes.Given as goal

abbrev pub invariant-loop-note : goal.invariant-loop-note
invariant-loop-note l = l.later ≡ take l.note-index l.note-items
