use Rattle.std.proofs.Common.{◌≡◌, ◌++◌, take}
use Rattle.row_forms.specs.believed.Markdown.{escaped}
use Rattle.row_forms.proofs.markdown_cell.add_escaped.Given as goal

abbrev pub invariant-loop-byte : goal.invariant-loop-byte
invariant-loop-byte l = l.into.items ≡ l.fn.into.items ++ escaped (take l.byte-index l.cell)
