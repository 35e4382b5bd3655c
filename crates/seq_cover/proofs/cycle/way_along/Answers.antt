use Rattle.std.proofs.Common.{◌≡◌, ◌-◌, ◌∷◌, ◌++◌, [], ◌∙◌, ap, sym, arith, rules}
use Rattle.seq_cover.specs.believed.Ways.{is_within, way_back}
use Rattle.seq_cover.proofs.LevelLemmas.{back_ends, back_on}
use Rattle.seq_cover.proofs.cycle.way_along.Goals as goal

pub returns-in_default : goal.returns-in_default
returns-in_default c = λ n pairs few of levels.
    let at = c.loop-at.at in
    back_ends n pairs c.args.goal at c.loop-at.event c.loop-at.cycle _ (omega arith) (c.loop-at.invariant.2 n pairs few of levels)
    (sym c.in_default.is ∙ c.next_near.ensures.value n pairs (is_within n pairs c.args.goal (at - 1)) few of (λ b below. levels (at - 1) b (omega arith) below))

pub loop-at-preserved : goal.loop-at-preserved
loop-at-preserved c =
    let pushed : c.push-in-loop-at.new.self ≡ c.loop-at.cycle ++ c.in-Some.next ∷ [] = search rules in (
      omega arith,
      c.in-Some.ensures.below,
      λ n pairs few of levels.
          let at = c.loop-at.at in
          back_on n pairs c.args.goal at c.loop-at.event c.in-Some.next c.loop-at.cycle _ (omega arith) (c.loop-at.invariant.2 n pairs few of levels)
          (sym c.in-Some.is ∙ c.next_near.ensures.value n pairs (is_within n pairs c.args.goal (at - 1)) few of (λ b below. levels (at - 1) b (omega arith) below))
          ∙ ap (λ l. l ++ way_back n pairs c.args.goal (at - 1) c.in-Some.next) (sym pushed),
    )
