use Rattle.std.proofs.Common.{◌≡◌, ◌++◌, take}
use Rattle.jeldroft_lint.specs.believed.Texts.{lines_text}
use Rattle.jeldroft_lint.proofs.lines.add_lines.Given as goal

abbrev pub invariant-loop-remark : goal.invariant-loop-remark
invariant-loop-remark l = l.into.items ≡ l.fn.into.items ++ lines_text l.file (take l.remark-index l.told)
