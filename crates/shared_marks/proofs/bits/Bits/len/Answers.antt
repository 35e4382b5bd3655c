use Rattle.std.proofs.Common.{length, ◌∙◌, sym, ap}
use Rattle.bit_table.proofs.MarkLemmas.{marks_long}
use Rattle.shared_marks.proofs.bits.Bits.len.Goals as goal

pub returns : goal.returns
returns c = sym (marks_long c.self.inside.words.items c.self.inside.size) ∙ ap length c.self.view_is
