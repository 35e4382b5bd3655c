use Rattle.std.proofs.Common.{◌≡◌, map, take}
use Rattle.model_page.specs.Seen.{point_seen}
use Rattle.model_page.proofs.curve.drawn.Given as goal

abbrev pub invariant-loop-point : goal.invariant-loop-point
invariant-loop-point l = l.drawn.items ≡ map point_seen (take l.point-index l.points)
