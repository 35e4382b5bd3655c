use Rattle.std.proofs.Common.{[], sym, subst, ap, ◌∙◌}
use Rattle.std.proofs.lemmas.List.{append-nil}
use Rattle.outside_io.specs.believed.Puts.{Puts}
use Rattle.row_text.proofs.Sending.{Adds-put}
use Rattle.row_text.proofs.out_buffer.OutBuffer.flush.Goals as goal

pub returns-clause-adds : goal.returns-clause-adds
returns-clause-adds g c =
    let state = g.O.Sink.seen in
    Adds-put c.put.result c.args.self.now (record { held = c.clear.new.self.items; failed = c.is_fault-self-inside.result }) (state c.args.out.now) (state c.put.new.self) []
    c.requires c.is_fault-self-inside.ensures c.clear.ensures.items
    (subst (Puts c.put.result (state c.args.out.now) (state c.put.new.self)) (c.as_slice.ensures.value ∙ ap (λ b. b.held) c.self.view_is ∙ sym (append-nil c.args.self.now.held)) c.put.ensures)
