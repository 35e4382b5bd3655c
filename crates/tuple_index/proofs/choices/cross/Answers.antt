use Rattle.std.proofs.Common.{◌++◌, map, ◌∙◌, ap, List, ℕ}
use Rattle.tuple_index.proofs.ChoiceLemmas.{flat_step}
use Rattle.tuple_index.proofs.choices.cross.Goals as goal

pub loop-way-preserved : goal.loop-way-preserved
loop-way-preserved c =
    let others : List (List ℕ) = c.args.others.now in
    let pieces : List ℕ → List (List ℕ) = λ way. map (λ other. way ++ other) others in
    flat_step pieces c.args.ways.now c.loop-way.way-index c.way-item.result c.loop-way.both c.push_joined.new.into _ c.loop-way-test.true c.way-item.is
    (c.in_ok-push_joined.ensures ∙ ap (λ way. c.loop-way.both ++ pieces way) c.as_slice.ensures) c.loop-way.invariant
