use Rattle.std.proofs.Common.{sym}
use Rattle.jeldroft_lint.proofs.Tokens.{adds_object}
use Rattle.jeldroft_lint.proofs.objects.put_objects.Goals as goal

pub loop-remark-preserved : goal.loop-remark-preserved
loop-remark-preserved c =
    adds_object c.args.writer.now c.loop-remark.writer c.put_object.new.writer c.args.file.now c.args.told.now c.loop-remark.remark-index c.remark-item.result
    c.loop-remark-test.true (sym c.remark-item.is) c.loop-remark.invariant c.in_ok-put_object.ensures
