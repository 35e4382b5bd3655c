use Rattle.std.proofs.Common.{◌≤◌, ◌∙◌, length, take, sym, ap, arith}
use Rattle.std.proofs.lemmas.List.{take_all}
use Rattle.cov_model.specs.PackedRows.{rows_of}
use Rattle.cov_model.proofs.PackedRowLemmas.{rows_length, rows_take}
use Rattle.cov_model.proofs.rows.Rows.truncate.Goals as goal

pub returns-then-count-self : goal.returns-then-count-self
returns-then-count-self c =
    ap (rows_of c.self.inside.width c.args.count) c.truncate.ensures.items
    ∙ rows_take c.self.inside.width c.self.inside.count c.args.count c.self.inside.places.items (omega (arith, c.if-count-self.true))
    ∙ ap (take c.args.count) c.self.view_is

pub returns-else-count-self : goal.returns-else-count-self
returns-else-count-self c =
    let past : length c.args.self.now ≤ c.args.count = omega
    (arith, c.if-count-self.false, rows_length c.self.inside.width c.self.inside.count c.self.inside.places.items, ap length c.self.view_is) in
    sym (take_all c.args.count c.args.self.now past)
