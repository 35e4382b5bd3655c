use Rattle.std.proofs.Common.{arith}
use Rattle.uncovered_table.proofs.LaneLemmas.{counted_marks}
use Rattle.uncovered_table.proofs.lanes.with_marks.Goals as goal

pub returns : goal.returns
returns c =
    counted_marks c.args.bits.now c.args.begin c.args.count c.marks_from.result c.args.counts c.with_lanes.result (omega arith) c.marks_from.ensures c.with_lanes.ensures
