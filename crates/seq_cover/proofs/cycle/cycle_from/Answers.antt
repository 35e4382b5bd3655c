use Rattle.std.proofs.Common.{◌≡◌, suc, ◌-◌, ◌∙◌, ◌∷◌, length, ap, sym, subst, arith}
use Rattle.seq_cover.specs.Sets.{AreLevels, IsFewest}
use Rattle.seq_cover.specs.believed.Ways.{cycle_by, way_back}
use Rattle.seq_cover.proofs.cycle.cycle_from.Goals as goal

pub returns-in_ok-way_along-in-Some : goal.returns-in_ok-way_along-in-Some
returns-in_ok-way_along-in-Some c = λ pairs of.
    let n = c.args.count in
    let first = c.args.first in
    let found = subst (IsFewest n pairs first) c.in-Some.is (c.in_ok-levels.ensures pairs of) in
    let levels = c.in-Some.levels.items in
    let are = subst (λ l. AreLevels l n pairs first) (sym c.as_slice.ensures.value) found.2 in
    let some = found.1 in
    let long : length c.as_slice.result.now ≡ suc (length levels - 1) = ap length c.as_slice.ensures.value ∙ (let same : length levels ≡ suc (length levels - 1) = omega arith in same) in
    c.in_ok-way_along-in-Some.ensures n pairs c.requires.count of are
    ∙ ap (λ m. first ∷ way_back n pairs first m first) long
    ∙ sym (ap (cycle_by n pairs first) found.0)
