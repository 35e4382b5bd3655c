use Rattle.std.proofs.Common.{◌∙◌, ap}
use Rattle.std.specs.List.{list_all}
use Rattle.ipog_grow.proofs.Giving.{agree_at, agrees-given}
use Rattle.ipog_grow.proofs.unions.agree.Goals as goal

pub loop-p-init : goal.loop-p-init
loop-p-init c =
    ap (list_all (agree_at c.args.row.now c.args.tuple.now)) c.requires.given ∙ agrees-given c.args.row.now c.args.tuple.now c.requires.long
