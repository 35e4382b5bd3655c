use Rattle.std.proofs.Common.{◌≡◌, take}
use Rattle.std.specs.List.{flat_map}
use Rattle.std.specs.String.{string_bytes}
use Rattle.suite_page.specs.believed.Pictures.{across, down, place_text}
use Rattle.suite_page.proofs.picture.points_text.Given as goal

abbrev pub invariant-loop-point : goal.invariant-loop-point
invariant-loop-point l =
    string_bytes l.text
    ≡ flat_map (λ point. place_text (across point.tests l.picture.tests) (down point.covered l.picture.total)) (take l.point-index l.picture.points.now)
