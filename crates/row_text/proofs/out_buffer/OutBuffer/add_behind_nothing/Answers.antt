use Rattle.std.proofs.Common.{◌++◌, sym, subst, ap, ◌∙◌}
use Rattle.outside_io.specs.believed.Puts.{Puts}
use Rattle.row_text.proofs.Sending.{Adds-put, Adds-failed}
use Rattle.row_text.proofs.out_buffer.OutBuffer.add_behind_nothing.Goals as goal

pub returns-then-self : goal.returns-then-self
returns-then-self g c =
    Adds-failed c.args.self.now (g.O.Sink.seen c.args.out.now) c.args.bytes.now
    (sym (ap (λ b. b.failed) c.self.view_is) ∙ c.if-self.true)

pub returns : goal.returns
returns g c =
    let state = g.O.Sink.seen in
    Adds-put c.put.result c.args.self.now (record { held = c.self.inside.bytes.items; failed = c.is_fault-self-inside.result }) (state c.args.out.now) (state c.put.new.self) c.args.bytes.now
    (sym (ap (λ b. b.failed) c.self.view_is) ∙ c.if-self.false) c.is_fault-self-inside.ensures (ap (λ b. b.held) c.self.view_is ∙ c.requires)
    (subst (Puts c.put.result (state c.args.out.now) (state c.put.new.self)) (sym (ap (λ held. held ++ c.args.bytes.now) c.requires)) c.put.ensures)
