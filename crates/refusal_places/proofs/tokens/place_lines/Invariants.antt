use Rattle.std.proofs.Common.{◌≤◌, length}
use Rattle.refusal_places.proofs.tokens.place_lines.Given as goal

abbrev pub invariant-loop-line : goal.invariant-loop-line
invariant-loop-line l = l.from ≤ length l.file
