use Rattle.std.proofs.Common.{subst, sym, ap, ◌∙◌}
use Rattle.outside_io.specs.believed.Puts.{Puts}
use Rattle.row_text.proofs.Sending.{Holds-finished}
use Rattle.row_text.proofs.out_buffer.OutBuffer.finish.Goals as goal

pub returns : goal.returns
returns g c = λ start text h.
    let state = g.O.Sink.seen in
    Holds-finished c.put.result c.args.self.now start (state c.args.out.now) (state c.put.new.self) text
    (sym (ap (λ b. b.failed) c.self.view_is) ∙ c.if-self.false)
    (subst (Puts c.put.result (state c.args.out.now) (state c.put.new.self)) (c.as_slice.ensures.value ∙ ap (λ b. b.held) c.self.view_is) c.put.ensures) h
