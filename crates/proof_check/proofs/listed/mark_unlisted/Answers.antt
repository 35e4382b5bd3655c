use Rattle.std.proofs.Common.{◌+◌, List, [], take, ◌∙◌, sym, ap, subst}
use Rattle.std.specs.Prelude.{sum}
use Rattle.shared_marks.proofs.PlaceLemmas.{all_places}
use Rattle.refutation.specs.declared.omissions.Omission.{Omission}
use Rattle.tuple_index.specs.Plan.{PlanView}
use Rattle.proof_check.specs.Left.{AreLeft}
use Rattle.proof_check.proofs.LeftLemmas.{all_left, left_more}
use Rattle.proof_check.proofs.listed.mark_unlisted.Goals as goal

pub loop-omission-init : goal.loop-omission-init
loop-omission-init c =
    let m = c.args.model.now in
    subst (AreLeft m []) (sym c.in_ok-left.ensures)
    (all_left m c.count_tuples.result (c.count_tuples.ensures ∙ ap (λ (plan : PlanView). sum plan.sizes) c.requires.plan ∙ all_places m))

pub loop-omission-preserved : goal.loop-omission-preserved
loop-omission-preserved c =
    let m = c.args.model.now in
    let i = c.loop-omission.omission-index in
    let same = c.as_slice-omission-items.ensures in
    subst (λ (omissions : List Omission). AreLeft m (take (i + 1) omissions) c.clear_one.new.left) same
    (left_more m c.as_slice-omission-items.result.now i c.omission-item.result c.loop-omission.left c.clear_one.new.left c.loop-omission-test.true
    c.omission-item.is
    (subst (λ (omissions : List Omission). AreLeft m (take i omissions) c.loop-omission.left) (sym same) c.loop-omission.invariant)
    c.in_ok-near.ensures)
