use Rattle.std.proofs.Common.{◌≡◌, ◌++◌, map, take}
use Rattle.std.specs.List.{flat_map}
use Rattle.suspect_tuples.specs.Told.{found_seen}
use Rattle.jeldroft_suspect.specs.believed.SuspectsText.{found_at, line_text}
use Rattle.jeldroft_suspect.proofs.text.add_lines.Given as goal

abbrev pub invariant-loop-at : goal.invariant-loop-at
invariant-loop-at l = l.into.items ≡ l.fn.into.items ++ flat_map (λ at. line_text l.model (found_at (map found_seen l.list) at)) (take l.at-index l.places)
