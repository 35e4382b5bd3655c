use Rattle.std.proofs.Common.{map}
use Rattle.suite_page.proofs.Grouping.{group_written}
use Rattle.suite_page.proofs.left_out.put_group.Goals as goal

pub returns : goal.returns
returns c =
    group_written c.args.omissions.now c.args.causes.now (map (λ text. text.items) c.args.reasons.now) c.count_alike.result
    c.args.page.now c.put_group_opening.new.page c.put_alike.new.page c.put_group_closing.new.page
    c.count_alike.ensures c.in_ok-put_group_opening.ensures c.in_ok-put_alike.ensures c.in_ok-put_group_closing.ensures
