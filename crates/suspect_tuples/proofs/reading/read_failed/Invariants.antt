use Rattle.std.proofs.Common.{◌≡◌, ◌++◌, false, map, length}
use Rattle.std.specs.Prelude.{unwrap_or}
use Rattle.suspect_tuples.specs.believed.ResultReading.{result_fault, result_of_line}
use Rattle.suspect_tuples.proofs.reading.read_failed.Given as goal

abbrev pub invariant-loop-line : goal.invariant-loop-line
invariant-loop-line l = record {
  flags : l.failed ++ map (λ line. unwrap_or (result_of_line l.column line.1) false) l.lines ≡ map (λ line. unwrap_or (result_of_line l.column line.1) false) l.initial.lines;
  fault : result_fault l.column l.lines ≡ result_fault l.column l.initial.lines;
}

abbrev pub decreases-loop-line : goal.decreases-loop-line
decreases-loop-line l = length l.lines
