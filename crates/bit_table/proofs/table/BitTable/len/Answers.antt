use Rattle.std.proofs.Common.{◌∙◌, sym, ap, length}
use Rattle.bit_table.proofs.MarkLemmas.{marks_long}
use Rattle.bit_table.proofs.table.BitTable.len.Goals as goal

pub returns : goal.returns
returns c = sym (marks_long c.self.inside.words.items c.self.inside.size) ∙ ap length c.self.view_is
