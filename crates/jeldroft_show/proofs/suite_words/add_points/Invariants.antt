use Rattle.std.proofs.Common.{◌≡◌, ◌++◌, take}
use Rattle.std.specs.List.{flat_map}
use Rattle.jeldroft_show.specs.believed.Words.{point_words}
use Rattle.jeldroft_show.proofs.suite_words.add_points.Given as goal

abbrev pub invariant-loop-point : goal.invariant-loop-point
invariant-loop-point l = l.text.items ≡ l.fn.text.items ++ flat_map (point_words l.demanded) (take l.point-index l.points)
