use Rattle.std.proofs.Common.{[], ◌∷◌, ap, sym, ◌∙◌}
use Rattle.row_text.proofs.Sending.{Adds-failed}
use Rattle.row_text.proofs.out_buffer.OutBuffer.add_byte.Goals as goal

pub returns-then-self : goal.returns-then-self
returns-then-self g c =
    Adds-failed c.args.self.now (g.O.Sink.seen c.args.out.now) (c.args.byte ∷ [])
    (sym (ap (λ b. b.failed) c.self.view_is) ∙ c.if-self.true)
