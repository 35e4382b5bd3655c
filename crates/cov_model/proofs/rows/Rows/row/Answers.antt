use Rattle.std.proofs.Common.{◌*◌, ◌∙◌, length, take, drop, sym, ap, arith}
use Rattle.cov_model.proofs.PackedRowLemmas.{IsRowAt, seen_row}
use Rattle.cov_model.proofs.rows.Rows.row.Goals as goal

row : (c : goal.After-as_slice) → IsRowAt c.self.inside.width c.self.inside.count c.self.inside.places.items c.args.self.now c.args.i
row c = seen_row c.self.inside.width c.self.inside.count c.self.inside.places.items c.args.self.now c.args.i c.self.view_is c.self.invariant c.requires

pub overflow_mul-i : goal.overflow_mul-i
overflow_mul-i c =
    let within = (row c).within in
    omega (arith, within, ap length c.as_slice.ensures.value, c.as_slice.type_inv.0)

pub part-requires : goal.part-requires
part-requires c = let within = (row c).within in omega (arith, within, ap length c.as_slice.ensures.value)

pub returns : goal.returns
returns c =
    let seen = seen_row c.self.inside.width c.self.inside.count c.self.inside.places.items c.args.self.now c.args.i c.self.view_is c.self.invariant c.requires in
    c.part.ensures
    ∙ ap (λ places. take c.self.inside.width (drop (c.args.i * c.self.inside.width) places)) c.as_slice.ensures.value
    ∙ sym seen.is
