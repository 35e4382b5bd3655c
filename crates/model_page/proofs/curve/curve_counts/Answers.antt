use Rattle.std.proofs.Common.{◌+◌, ◌*◌, [], ◌∷◌, ◌++◌, ◌∙◌, ap, map, sym, zero-add}
use Rattle.std.specs.Prelude.{◌/◌}
use Rattle.std.specs.List.{range_with_len}
use Rattle.std.proofs.lemmas.List.FromFn.{map-range_with_len_more}
use Rattle.model_page.proofs.curve.curve_counts.Goals as goal

pub loop-step-preserved : goal.loop-step-preserved
loop-step-preserved c =
    let step = c.loop-step.step in
    c.in_ok-push-2.ensures.items ∙ ap (λ counts. counts ++ c.count_at.result ∷ []) c.loop-step.invariant
    ∙ ap (λ n. (0 ∷ map (λ i. (i + 1) * c.args.count / c.min-steps.result) (range_with_len 0 step)) ++ n ∷ []) c.count_at.ensures
    ∙ ap (λ counts. 0 ∷ counts) (sym (map-range_with_len_more (λ i. (i + 1) * c.args.count / c.min-steps.result) 0 step step (zero-add step)))
