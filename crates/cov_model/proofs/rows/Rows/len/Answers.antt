use Rattle.std.proofs.Common.{length, ◌∙◌, sym, ap}
use Rattle.cov_model.proofs.PackedRowLemmas.{rows_length}
use Rattle.cov_model.proofs.rows.Rows.len.Goals as goal

pub returns : goal.returns
returns c = sym (rows_length c.self.inside.width c.self.inside.count c.self.inside.places.items) ∙ ap length c.self.view_is
