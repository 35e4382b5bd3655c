use Rattle.std.proofs.Common.{◌+◌, length, rules}
use denote.Param.Send.{IsSync, sendable}
use Rattle.std.proofs.Crossing.{crosses}
use Rattle.cov_model.proofs.cells.Cells.TheSendSync as cells
use Rattle.uncovered_table.proofs.Crossing.{table_sync}
use Rattle.scoring.proofs.GainLemmas.{joined, put_gains}
use Rattle.scoring.proofs.score.+fn-score_values-join_mut+arg2+fn-score_values-join_mut+arg3+score_values.Goals as goal

pub returns-then-workers-eq1 : goal.returns-then-workers-eq1
returns-then-workers-eq1 g t c =
    put_gains c.args.table.now c.args.cells.now c.args.column c.args.from (length c.args.scores.now) c.gains.new.scores c.gains.ensures

pub returns : goal.returns
returns g t c i within =
    joined c.args.table.now c.args.cells.now c.args.column c.args.from (c.args.from + c.share-middle.result) c.left-1.given.0 c.right-1.given.0 i within
    (search rules) (search rules) (search rules)

pub join_mut-requires-send-F : goal.join_mut-requires-send-F
join_mut-requires-send-F g t c κs within =
    let r : IsSync g.row.R = search (sendable, crosses) depth 10 in
    let s : IsSync g.row.G = search (sendable, crosses) depth 10 in
    search (sendable, crosses, cells.the_sync, table_sync) depth 40
