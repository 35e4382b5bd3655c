use Rattle.std.proofs.Common.{arith}
use Rattle.std.proofs.lemmas.Grind.{common_steps}
use Rattle.cov_model.specs.Views.{each_is, either_is}
use Rattle.model_lint.proofs.Steps.{next_pred}
use Rattle.model_lint.proofs.trees.+copy.Goals as goal

pub copy_pred-returns-in_ok-copy_preds-in-All : goal.copy_pred-returns-in_ok-copy_preds-in-All
copy_pred-returns-in_ok-copy_preds-in-All t c =
    let e = each_is c.in-All.parts in
    let is = each_is c.in_ok-copy_preds-in-All.field-0 in
    grind (arith, common_steps)

pub copy_pred-returns-in_ok-copy_preds-in-Any : goal.copy_pred-returns-in_ok-copy_preds-in-Any
copy_pred-returns-in_ok-copy_preds-in-Any t c =
    let e = either_is c.in-Any.parts in
    let is = either_is c.in_ok-copy_preds-in-Any.field-0 in
    grind (arith, common_steps)

pub copy_preds-loop-part-preserved : goal.copy_preds-loop-part-preserved
copy_preds-loop-part-preserved t c =
    next_pred c.args.parts.now c.loop-part.part-index c.part-item.result c.in_ok-copy_pred.field-0 c.loop-part.copies c.push.new.self
    (omega arith) c.part-item.is c.loop-part.invariant c.in_ok-copy_pred.ensures c.in_ok-push.ensures.ok
