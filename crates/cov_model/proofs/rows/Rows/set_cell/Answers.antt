use Rattle.std.proofs.Common.{Some, arith}
use Rattle.cov_model.proofs.PackedRowLemmas.{Sets, seen_set}
use Rattle.cov_model.proofs.rows.Rows.set_cell.Goals as goal

cell : (c : goal.After-self) → Sets c.self.inside.width c.self.inside.count c.self.inside.places.items c.args.self.now c.args.i c.args.p (Some c.args.v)
cell c =
    seen_set c.self.inside.width c.self.inside.count c.self.inside.places.items c.args.self.now c.args.i c.args.p (Some c.args.v) c.self.view_is c.self.invariant
    c.requires.place c.requires.parameter

pub overflow_mul-place : goal.overflow_mul-place
overflow_mul-place c =
    let within = (cell c).within in omega (arith, within, c.self.inside.places.ok.0, c.self.inside.places.ok.1, c.self.inside.places.small)

pub overflow_add-place : goal.overflow_add-place
overflow_add-place c =
    let within = (cell c).within in omega (arith, within, c.self.inside.places.ok.0, c.self.inside.places.ok.1, c.self.inside.places.small)

pub index_mut-requires : goal.index_mut-requires
index_mut-requires c =
    let within = (seen_set c.self.inside.width c.self.inside.count c.self.inside.places.items c.args.self.now c.args.i c.args.p (Some c.args.v) c.self.view_is
    c.self.invariant c.requires.place c.requires.parameter).within in
    omega (arith, within, c.self.inside.places.ok.0)

pub returns : goal.returns
returns c =
    (seen_set c.self.inside.width c.self.inside.count c.self.inside.places.items c.args.self.now c.args.i c.args.p (Some c.args.v) c.self.view_is c.self.invariant
    c.requires.place c.requires.parameter).are
