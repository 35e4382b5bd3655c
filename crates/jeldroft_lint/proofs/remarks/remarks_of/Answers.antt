use Rattle.std.proofs.Common.{sym}
use Rattle.jeldroft_lint.proofs.Explaining.{told_more}
use Rattle.jeldroft_lint.proofs.remarks.remarks_of.Goals as goal

pub loop-finding-preserved : goal.loop-finding-preserved
loop-finding-preserved c =
    rw c.in_ok-push.ensures.items
    (told_more c.args.model.now c.args.found.now c.as_slice-finding-items.result.now c.loop-finding.finding-index c.finding-item.result c.loop-finding.list.items _
    c.as_slice-finding-items.ensures c.loop-finding-test.true (sym c.finding-item.is) c.loop-finding.invariant c.in_ok-remark_of.ensures.gist
    c.in_ok-remark_of.ensures.explained)
