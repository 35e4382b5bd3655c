use Rattle.std.proofs.Common.{◌≡◌, false, take}
use Rattle.std.specs.List.{list_any}
use Rattle.suite_page.specs.believed.LeftOut.{is_by}
use Rattle.suite_page.specs.Seen.{omission_seen}
use Rattle.suite_page.proofs.left_out.are_among.Given as goal

-- none of those before this one
abbrev pub invariant-loop-omission : goal.invariant-loop-omission
invariant-loop-omission l = list_any (λ one. is_by l.causes (omission_seen one)) (take l.omission-index l.omissions) ≡ false
