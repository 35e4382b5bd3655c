use Rattle.std.proofs.Common.{◌≡◌, ◌*◌, ◌∙◌, ℕ, List, Option, length, sym, ap, arith}
use Rattle.std.proofs.lemmas.List.{with_items_is}
use Rattle.cov_model.specs.PackedRows.{rows_of}
use Rattle.cov_model.proofs.PackedRowLemmas.{IsRowAt, copied, seen_copy, seen_row}
use Rattle.cov_model.proofs.rows.Rows.copy_row.Goals as goal

first : (c : goal.After-self) → IsRowAt c.self.inside.width c.self.inside.count c.self.inside.places.items c.args.self.now c.args.from
first c = seen_row c.self.inside.width c.self.inside.count c.self.inside.places.items c.args.self.now c.args.from c.self.view_is c.self.invariant c.requires.from

other : (c : goal.After-self) → IsRowAt c.self.inside.width c.self.inside.count c.self.inside.places.items c.args.self.now c.args.to
other c = seen_row c.self.inside.width c.self.inside.count c.self.inside.places.items c.args.self.now c.args.to c.self.view_is c.self.invariant c.requires.to

pub overflow_mul-begin : goal.overflow_mul-begin
overflow_mul-begin c = let within = (first c).within in omega (arith, within, c.self.inside.places.ok.0, c.self.inside.places.ok.1, c.self.inside.places.small)

pub overflow_mul-end : goal.overflow_mul-end
overflow_mul-end c = let within = (other c).within in omega (arith, within, c.self.inside.places.ok.0, c.self.inside.places.ok.1, c.self.inside.places.small)

pub copy_part-requires-clause-from : goal.copy_part-requires-clause-from
copy_part-requires-clause-from c =
    let within = (seen_row c.self.inside.width c.self.inside.count c.self.inside.places.items c.args.self.now c.args.from c.self.view_is c.self.invariant c.requires.from).within in
    omega (arith, within, ap length c.as_mut_slice.ensures.value)

pub copy_part-requires-clause-to : goal.copy_part-requires-clause-to
copy_part-requires-clause-to c =
    let within = (seen_row c.self.inside.width c.self.inside.count c.self.inside.places.items c.args.self.now c.args.to c.self.view_is c.self.invariant c.requires.to).within in
    omega (arith, within, ap length c.as_mut_slice.ensures.value)

pub returns : goal.returns
returns c =
    let copies = seen_copy c.self.inside.width c.self.inside.count c.self.inside.places.items c.args.self.now c.args.from c.args.to c.self.view_is c.self.invariant
    c.requires.from c.requires.to in
    let places : c.copy_part.new.places ≡ copied c.self.inside.places.items (c.args.from * c.self.inside.width) (c.args.to * c.self.inside.width) c.self.inside.width =
    c.copy_part.ensures
    ∙ ap (λ (from : List (Option ℕ)). copied from (c.args.from * c.self.inside.width) (c.args.to * c.self.inside.width) c.self.inside.width) c.as_mut_slice.ensures.value in
    ap (rows_of c.self.inside.width c.self.inside.count)
    (with_items_is c.self.inside.places c.copy_part.new.places (ap length places ∙ copies.long ∙ sym c.self.inside.places.ok.0) ∙ places)
    ∙ copies.are
