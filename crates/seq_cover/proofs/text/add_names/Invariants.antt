use Rattle.std.proofs.Common.{◌≡◌, ◌++◌, take}
use Rattle.std.specs.List.{join_with_byte}
use Rattle.seq_check.specs.believed.OrderReport.{names_of}
use Rattle.seq_cover.proofs.text.add_names.Given as goal

abbrev pub invariant-loop-place : goal.invariant-loop-place
invariant-loop-place l = l.text.items ≡ l.initial.text.items ++ join_with_byte l.mark (names_of l.events (take l.place l.numbers))
