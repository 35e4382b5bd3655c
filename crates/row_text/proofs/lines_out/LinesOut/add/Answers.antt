use Rattle.std.proofs.Common.{[], sym, subst, ap, refl, ◌∙◌}
use Rattle.row_text.specs.Buffering.{Adds}
use Rattle.row_text.proofs.Sending.{Adds-put, Adds-failed}
use Rattle.row_text.proofs.lines_out.LinesOut.add.Goals as goal

pub returns-then-self : goal.returns-then-self
returns-then-self g c =
    Adds-failed c.args.self.now (g.O.Sink.seen c.args.out.now) c.args.bytes.now
    (sym (ap (λ b. b.failed) c.self.view_is) ∙ c.if-self.true)

pub returns : goal.returns
returns g c =
    let state = g.O.Sink.seen in
    subst (λ b. Adds b (state c.args.out.now) (record { held = []; failed = c.is_fault-self-inside.result }) (state c.put.new.self) c.args.bytes.now) c.self.view_is
    (Adds-put c.put.result (record { held = []; failed = c.self.inside.faulty })
    (record { held = []; failed = c.is_fault-self-inside.result }) (state c.args.out.now) (state c.put.new.self) c.args.bytes.now
    c.if-self.false c.is_fault-self-inside.ensures refl c.put.ensures)
