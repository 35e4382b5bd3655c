use Rattle.std.proofs.Common.{◌≡◌, take}
use Rattle.cov_model.specs.Views.{preds_in}
use Rattle.constraint_ast.specs.Trees.{trees_in}
use Rattle.model_words.specs.believed.Constraints.{preds_spelled}
use Rattle.model_words.proofs.spelling.+write.Given as goal

abbrev pub invariant-preds_spelled-loop-part : goal.invariant-preds_spelled-loop-part
invariant-preds_spelled-loop-part l = trees_in l.raw ≡ preds_spelled l.params (preds_in (take l.part-index l.parts))
