use Rattle.std.proofs.Common.{◌≡◌, ◌++◌, take}
use Rattle.std.specs.List.{filter, flat_map}
use Rattle.suite_page.specs.believed.LeftOut.{is_by}
use Rattle.suite_page.specs.Seen.{combination_text, omission_seen}
use Rattle.suite_page.proofs.left_out.put_alike.Given as goal

abbrev pub invariant-loop-omission : goal.invariant-loop-omission
invariant-loop-omission l =
    l.page ≡ l.fn.page ++ flat_map combination_text (filter (λ one. is_by l.causes (omission_seen one)) (take l.omission-index l.omissions))
