use Rattle.std.proofs.Common.{rules, ◌≡◌, ◌+◌, ◌*◌, ◌++◌, ◌∙◌, length, sym, ap, arith}
use Rattle.cov_model.specs.PackedRows.{rows_of}
use Rattle.cov_model.proofs.PackedRowLemmas.{seen_appends}
use Rattle.cov_model.proofs.rows.Rows.append.Goals as goal

pub invariant_of-self-2 : goal.invariant_of-self-2
invariant_of-self-2 c =
    let more : c.in-Some.count ≡ c.self.inside.count + c.others.inside.count = grind arith in
    let items : c.append.new.self.items ≡ c.self.inside.places.items ++ c.others.inside.places.items = search rules in
    let appends = seen_appends c.self.inside.width c.self.inside.count c.others.inside.width c.others.inside.count c.self.inside.places.items c.others.inside.places.items
    c.args.self.now c.args.others c.self.view_is c.others.view_is c.self.invariant c.others.invariant (omega (arith, c.if-self-eq0.false)) c.requires in
    ap length items ∙ appends.long ∙ ap (λ n. n * c.self.inside.width) (sym more)

pub returns-clause-ok : goal.returns-clause-ok
returns-clause-ok c =
    let more : c.in-Some.count ≡ c.self.inside.count + c.others.inside.count = grind arith in
    let items : c.append.new.self.items ≡ c.self.inside.places.items ++ c.others.inside.places.items = search rules in
    let appends = seen_appends c.self.inside.width c.self.inside.count c.others.inside.width c.others.inside.count c.self.inside.places.items c.others.inside.places.items
    c.args.self.now c.args.others c.self.view_is c.others.view_is c.self.invariant c.others.invariant (omega (arith, c.if-self-eq0.false)) c.requires in
    ap (λ n. rows_of c.self.inside.width n c.append.new.self.items) more
    ∙ ap (rows_of c.self.inside.width (c.self.inside.count + c.others.inside.count)) items
    ∙ appends.are
