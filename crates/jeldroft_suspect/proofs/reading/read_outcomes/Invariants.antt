use Rattle.std.proofs.Common.{◌≡◌, ◌++◌, map, length}
use Rattle.jeldroft_suspect.specs.believed.Results.{outcome_in, wordless}
use Rattle.jeldroft_suspect.proofs.reading.read_outcomes.Given as goal

abbrev pub invariant-loop-line : goal.invariant-loop-line
invariant-loop-line l = record {
  outcomes : l.outcomes ++ map (outcome_in l.column) l.lines ≡ map (outcome_in l.column) l.initial.lines;
  fault : wordless l.column l.lines ≡ wordless l.column l.initial.lines;
}

abbrev pub decreases-loop-line : goal.decreases-loop-line
decreases-loop-line l = length l.lines
