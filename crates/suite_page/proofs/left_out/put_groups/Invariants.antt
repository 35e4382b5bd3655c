use Rattle.std.proofs.Common.{◌≡◌, ◌++◌, map}
use Rattle.std.specs.List.{flat_map, range_with_len}
use Rattle.suite_page.specs.Laws.{group_parts}
use Rattle.suite_page.specs.believed.LeftOut.{group_at}
use Rattle.suite_page.specs.Seen.{omission_seen}
use Rattle.suite_page.proofs.left_out.put_groups.Given as goal

-- the groups whose first combination stands before this one
abbrev pub invariant-loop-at : goal.invariant-loop-at
invariant-loop-at l = l.page ≡ l.fn.page ++ flat_map group_parts (flat_map (group_at (map omission_seen l.omissions)) (range_with_len 0 l.at))
