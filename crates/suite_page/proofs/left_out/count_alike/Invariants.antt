use Rattle.std.proofs.Common.{◌≡◌, ◌≤◌, length, take}
use Rattle.std.specs.List.{filter}
use Rattle.suite_page.specs.believed.LeftOut.{is_by}
use Rattle.suite_page.specs.Seen.{omission_seen}
use Rattle.suite_page.proofs.left_out.count_alike.Given as goal

abbrev pub invariant-loop-omission : goal.invariant-loop-omission
invariant-loop-omission l =
    (l.count ≤ l.omission-index) × (l.count ≡ length (filter (λ one. is_by l.causes (omission_seen one)) (take l.omission-index l.omissions)))
