use Rattle.std.proofs.Common.{◌≡◌, ◌++◌, map, take}
use Rattle.pict_cli.specs.believed.RowSources.{dropped_note}
use Rattle.pict_cli.proofs.suite.push_dropped.Given as goal

abbrev pub invariant-loop-line : goal.invariant-loop-line
invariant-loop-line l = l.notes ≡ l.fn.notes ++ map dropped_note (take l.line-index l.lines)
