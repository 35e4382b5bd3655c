use Rattle.std.proofs.Common.{take}
use Rattle.jeldroft_lint.specs.Texts.{Adds}
use Rattle.jeldroft_lint.specs.believed.Texts.{objects_tokens}
use Rattle.jeldroft_lint.proofs.objects.put_objects.Given as goal

abbrev pub invariant-loop-remark : goal.invariant-loop-remark
invariant-loop-remark l = Adds l.fn.writer l.writer (objects_tokens l.file (take l.remark-index l.told))
