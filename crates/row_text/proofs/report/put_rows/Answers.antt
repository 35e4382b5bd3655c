use Rattle.std.proofs.Common.{arith}
use Rattle.row_text.proofs.Lines.{row_lines-more}
use Rattle.row_text.proofs.Sending.{Adds-then, Adds-same}
use Rattle.row_text.proofs.report.put_rows.Goals as goal

pub loop-at-preserved : goal.loop-at-preserved
loop-at-preserved g c = record {
  text = Adds-same (row_lines-more c.args.model.now c.args.rows.now c.loop-at.at (omega arith)) (Adds-then c.loop-at.invariant.text c.put_row.ensures.text);
  next = c.put_row.ensures.next;
  shape = c.put_row.ensures.shape;
}
