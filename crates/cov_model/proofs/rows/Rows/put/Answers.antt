use Rattle.std.proofs.Common.{◌≡◌, ◌*◌, ◌∙◌, ℕ, length, sym, ap, arith}
use Rattle.std.proofs.lemmas.List.{with_items_is}
use Rattle.cov_model.specs.PackedRows.{rows_of}
use Rattle.cov_model.proofs.PackedRowLemmas.{Puts, seen_put, written}
use Rattle.cov_model.proofs.rows.Rows.put.Goals as goal

put : (c : goal.After-as_mut_slice) → Puts c.self.inside.width c.self.inside.count c.self.inside.places.items c.args.self.now c.args.i c.args.row.now
put c =
    seen_put c.self.inside.width c.self.inside.count c.self.inside.places.items c.args.self.now c.args.i c.args.row.now c.self.view_is c.self.invariant c.requires.place
    c.requires.long

pub overflow_mul-i : goal.overflow_mul-i
overflow_mul-i c =
    let within = (put c).within in
    omega (arith, within, ap length c.as_mut_slice.ensures.value, c.as_mut_slice.type_inv.0)

pub put_part-requires : goal.put_part-requires
put_part-requires c = let within = (put c).within in omega (arith, within, ap length c.as_mut_slice.ensures.value)

pub returns : goal.returns
returns c =
    let puts = seen_put c.self.inside.width c.self.inside.count c.self.inside.places.items c.args.self.now c.args.i c.args.row.now c.self.view_is c.self.invariant
    c.requires.place c.requires.long in
    let begin : ℕ = c.args.i * c.self.inside.width in
    let places : c.put_part.new.places ≡ written c.self.inside.places.items begin c.args.row.now =
    c.put_part.ensures ∙ ap (λ from. written from begin c.args.row.now) c.as_mut_slice.ensures.value in
    ap (rows_of c.self.inside.width c.self.inside.count)
    (with_items_is c.self.inside.places c.put_part.new.places (ap length places ∙ puts.long ∙ sym c.self.inside.places.ok.0) ∙ places)
    ∙ puts.are
