use Rattle.std.proofs.Common.{ap, arith, ◌∙◌}
use Rattle.cov_model.specs.Views.{preds_in}
use Rattle.model_words.specs.believed.Constraints.{preds_spelled}
use Rattle.model_words.proofs.SpellingLemmas.{each_spelled, either_spelled, one_more_spelled}
use Rattle.model_words.proofs.spelling.+write.Goals as goal

pub pred_spelled-returns-in_ok-preds_spelled-in-All : goal.pred_spelled-returns-in_ok-preds_spelled-in-All
pred_spelled-returns-in_ok-preds_spelled-in-All t c =
    let params = c.args.params.now in
    each_spelled params c.in_ok-preds_spelled-in-All.field-0 c.in-All.parts c.args.pred.now c.in-All.is
    (c.in_ok-preds_spelled-in-All.ensures ∙ ap (λ list. preds_spelled params (preds_in list)) c.as_slice.ensures)

pub pred_spelled-returns-in_ok-preds_spelled-in-Any : goal.pred_spelled-returns-in_ok-preds_spelled-in-Any
pred_spelled-returns-in_ok-preds_spelled-in-Any t c =
    let params = c.args.params.now in
    either_spelled params c.in_ok-preds_spelled-in-Any.field-0 c.in-Any.parts c.args.pred.now c.in-Any.is
    (c.in_ok-preds_spelled-in-Any.ensures ∙ ap (λ list. preds_spelled params (preds_in list)) c.as_slice-in-Any.ensures)

pub preds_spelled-loop-part-preserved : goal.preds_spelled-loop-part-preserved
preds_spelled-loop-part-preserved t c =
    one_more_spelled c.args.params.now c.args.parts.now c.loop-part.part-index c.part-item.result c.loop-part.raw c.push.new.self c.in_ok-pred_spelled.field-0
    (omega arith) c.part-item.is c.loop-part.invariant c.in_ok-pred_spelled.ensures c.in_ok-push.ensures.ok
