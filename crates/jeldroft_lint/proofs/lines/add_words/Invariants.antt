use Rattle.std.proofs.Common.{◌≡◌, ◌++◌, map, take}
use Rattle.jeldroft_lint.specs.believed.Texts.{shown_byte}
use Rattle.jeldroft_lint.proofs.lines.add_words.Given as goal

abbrev pub invariant-loop-byte : goal.invariant-loop-byte
invariant-loop-byte l = l.into.items ≡ l.fn.into.items ++ map shown_byte (take l.byte-index l.words)
