use Rattle.std.proofs.Common.{◌≡◌, take}
use Rattle.cov_model.specs.Views.{preds_in}
use Rattle.model_lint.proofs.trees.+copy.Given as goal

abbrev pub invariant-copy_preds-loop-part : goal.invariant-copy_preds-loop-part
invariant-copy_preds-loop-part l = preds_in l.copies ≡ preds_in (take l.part-index l.parts)
