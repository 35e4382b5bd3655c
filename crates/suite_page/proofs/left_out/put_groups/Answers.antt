use Rattle.std.proofs.Common.{◌++◌, map, ap, sym, ◌∙◌, append_assoc}
use Rattle.std.specs.List.{flat_map, range_with_len}
use Rattle.suite_page.specs.Laws.{group_parts}
use Rattle.suite_page.specs.believed.LeftOut.{group_at}
use Rattle.suite_page.specs.Seen.{omission_seen}
use Rattle.suite_page.proofs.Grouping.{groups_more}
use Rattle.suite_page.proofs.left_out.put_groups.Goals as goal

pub loop-at-preserved : goal.loop-at-preserved
loop-at-preserved c =
    let all = map omission_seen c.args.omissions.now in
    let here = flat_map group_parts (group_at all c.loop-at.at) in
    c.in_ok-put_group_at.ensures ∙ ap (λ bytes. bytes ++ here) c.loop-at.invariant
    ∙ append_assoc c.args.page.now (flat_map group_parts (flat_map (group_at all) (range_with_len 0 c.loop-at.at))) here
    ∙ ap (λ bytes. c.args.page.now ++ bytes) (sym (groups_more all c.loop-at.at))
