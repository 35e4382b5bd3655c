use Rattle.std.proofs.Common.{◌≡◌, ◌++◌, map, take}
use Rattle.jeldroft_files.specs.believed.Tables.{shown_byte}
use Rattle.jeldroft_files.proofs.tabbed.add_text.Given as goal

abbrev pub invariant-loop-byte : goal.invariant-loop-byte
invariant-loop-byte l = l.into.items ≡ l.fn.into.items ++ map shown_byte (take l.byte-index l.text)
