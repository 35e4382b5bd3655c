use Rattle.std.proofs.Common.{sym, subst, ◌∙◌}
use Rattle.definitions.specs.believed.Report.{report_text}
use Rattle.row_text.specs.Turns.{IsFor}
use Rattle.row_text.proofs.Turning.{first_turns-IsFor}
use Rattle.row_text.proofs.Sending.{Adds-then, Holds-all}
use Rattle.row_text.proofs.report.put_report.Goals as goal

pub put_rows-requires-clause-shape : goal.put_rows-requires-clause-shape
put_rows-requires-clause-shape g c = subst (IsFor c.args.model.now) (sym (c.clear.ensures.next ∙ c.requires.turns)) (first_turns-IsFor c.args.model.now)

pub returns : goal.returns
returns g c =
    let state = g.O.Sink.seen in
    let whole = c.finish.ensures (state c.args.out.now) (report_text c.args.model.now c.args.rows.now)
    (Holds-all c.clear.ensures.buffer (Adds-then c.put_header.ensures c.put_rows.ensures.text)) in
    record { puts = whole; turns = c.put_rows.ensures.shape }
