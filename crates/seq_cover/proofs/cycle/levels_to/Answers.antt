use Rattle.std.proofs.Common.{◌≡◌, ◌+◌, ◌-◌, ◌<◌, ◌∙◌, ◌||◌, ◌∷◌, ◌++◌, [], eqb, length, ap, sym, subst, arith, rules, true, false, is_some, Some}
use Rattle.std.proofs.lemmas.List.{length_push}
use Rattle.seq_cover.specs.Sets.{AreLevels}
use Rattle.seq_cover.specs.believed.Ways.{fewest, is_within}
use Rattle.seq_cover.proofs.LevelLemmas.{Climbs, climbs_from, climbs_on, fewest_here, fewest_nowhere, one_level_more}
use Rattle.seq_cover.proofs.cycle.levels_to.Goals as goal

pub loop-turn-init : goal.loop-turn-init
loop-turn-init c = (
  ap length c.new-levels.ensures.items,
  λ pairs of. subst (λ levels. Climbs c.args.count pairs c.args.goal c.with-near.result levels 0) (sym c.new-levels.ensures.items)
      (climbs_from c.args.count pairs c.args.goal c.with-near.result c.requires.goal (λ b. c.with-near.ensures b ∙ ap (λ t. t || eqb c.args.goal b) (c.none.ensures b))),
)

pub returns-then-is_some : goal.returns-then-is_some
returns-then-is_some c = λ pairs of.
    let n = c.args.count in
    let first = c.args.goal in
    let turn = c.loop-turn.turn in
    let levels = c.loop-turn.levels.items in
    let near = c.loop-turn.near in
    let long = c.loop-turn.invariant.0 in
    let climbs = c.loop-turn.invariant.1 pairs of in
    let pushed : c.push.new.self.items ≡ levels ++ near ∷ [] = search rules in
    let met : is_some c.next_near.result ≡ true = search rules in
    let is = c.next_near.ensures.value n pairs (is_within n pairs first turn) c.requires.count of climbs.near_is in
    let more = length_push levels near in
    let last : turn ≡ length (levels ++ near ∷ []) - 1 = omega (arith, more) in
    subst (λ items. (fewest n pairs first ≡ Some (length items - 1)) × (0 < length items) × AreLevels items n pairs first) (sym pushed)
    (fewest_here n pairs first near levels turn long climbs (omega arith) c.next_near.result is met ∙ ap Some last, omega (arith, more), one_level_more n pairs first near levels turn long climbs)

pub loop-turn-preserved : goal.loop-turn-preserved
loop-turn-preserved c =
    let n = c.args.count in
    let first = c.args.goal in
    let turn = c.loop-turn.turn in
    let levels = c.loop-turn.levels.items in
    let near = c.loop-turn.near in
    let long = c.loop-turn.invariant.0 in
    let pushed : c.push.new.self.items ≡ levels ++ near ∷ [] = search rules in
    let unmet : is_some c.next_near.result ≡ false = search rules in (
      ap length pushed ∙ length_push levels near ∙ ap (λ k. k + 1) long,
      λ pairs of.
          let climbs = c.loop-turn.invariant.1 pairs of in
          let is = c.next_near.ensures.value n pairs (is_within n pairs first turn) c.requires.count of climbs.near_is in
          subst (λ items. Climbs n pairs first c.one_step_more-near.result items (turn + 1)) (sym pushed)
          (climbs_on n pairs first near levels turn long climbs c.one_step_more-near.result c.next_near.result is unmet
          (c.one_step_more-near.ensures pairs (is_within n pairs first turn) of climbs.near_is)),
    )

pub returns : goal.returns
returns c = λ pairs of.
    fewest_nowhere c.args.count pairs c.args.goal c.loop-turn.near c.loop-turn.levels.items c.loop-turn.turn c.loop-turn.invariant.0 (c.loop-turn.invariant.1 pairs of) (omega arith)
