use Rattle.feasibility.proofs.Naming.{is_among-All, is_among-Any}
use Rattle.feasibility.proofs.named.+names.Goals as goal

pub pred_names-returns-in-All : goal.pred_names-returns-in-All
pred_names-returns-in-All t c = let e = is_among-All c.in-All.parts c.args.p in cc

pub pred_names-returns-in-Any : goal.pred_names-returns-in-Any
pred_names-returns-in-Any t c = let e = is_among-Any c.in-Any.parts c.args.p in cc
