use Rattle.std.proofs.Common.{◌≡◌, ◌+◌, ◌*◌, ◌++◌, length, ◌∙◌, ap, arith, rules, sym}
use Rattle.cov_model.specs.PackedRows.{rows_of}
use Rattle.cov_model.proofs.PackedRowLemmas.{seen_push}
use Rattle.cov_model.proofs.rows.Rows.push.Goals as goal

pub invariant_of-self-2 : goal.invariant_of-self-2
invariant_of-self-2 c =
    let more : c.in-Some.count ≡ c.self.inside.count + 1 = grind arith in
    let items : c.extend_from_slice.new.self.items ≡ c.self.inside.places.items ++ c.args.row.now = search rules in
    let pushes = seen_push c.self.inside.width c.self.inside.count c.self.inside.places.items c.args.self.now c.args.row.now c.self.view_is c.self.invariant c.requires in
    ap length items ∙ pushes.long ∙ ap (λ n. n * length c.args.row.now) (sym more)

pub returns-clause-ok : goal.returns-clause-ok
returns-clause-ok c =
    let more : c.in-Some.count ≡ c.self.inside.count + 1 = grind arith in
    let items : c.extend_from_slice.new.self.items ≡ c.self.inside.places.items ++ c.args.row.now = search rules in
    let pushes = seen_push c.self.inside.width c.self.inside.count c.self.inside.places.items c.args.self.now c.args.row.now c.self.view_is c.self.invariant c.requires in
    ap (λ n. rows_of (length c.args.row.now) n c.extend_from_slice.new.self.items) more
    ∙ ap (rows_of (length c.args.row.now) (c.self.inside.count + 1)) items
    ∙ pushes.are
