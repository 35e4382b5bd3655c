use Rattle.std.proofs.Common.{◌≡◌, drop}
use Rattle.cov_model.specs.Views.{preds_in}
use Rattle.cov_model.specs.believed.Kleene.{all_truth, any_truth, and_of, or_of}
use Rattle.cov_model.proofs.model.TestModel.+eval.Given as goal

abbrev pub invariant-all_truth-loop-part : goal.invariant-all_truth-loop-part
invariant-all_truth-loop-part l =
    and_of l.so_far (all_truth l.self (preds_in (drop l.part-index l.parts)) l.cells) ≡ all_truth l.self (preds_in l.parts) l.cells

abbrev pub invariant-any_truth-loop-part : goal.invariant-any_truth-loop-part
invariant-any_truth-loop-part l = or_of l.so_far (any_truth l.self (preds_in (drop l.part-index l.parts)) l.cells) ≡ any_truth l.self (preds_in l.parts) l.cells
