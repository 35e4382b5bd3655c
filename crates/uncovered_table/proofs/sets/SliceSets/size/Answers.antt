use Rattle.std.proofs.Common.{◌<◌, ◌∙◌, ap, arith, length}
use Rattle.definitions.specs.believed.Demand.{demanded_sets}
use Rattle.uncovered_table.proofs.PlaceLemmas.{places_few}
use Rattle.uncovered_table.proofs.TableLemmas.{last_block}
use Rattle.uncovered_table.proofs.sets.SliceSets.size.Goals as goal

pub overflow_add-result : goal.overflow_add-result
overflow_add-result c =
    let v = c.args.self.now in
    let some : 0 < c.set_count-sets.result = omega arith in
    let end = last_block v.model v.slice c.set_count-sets.result c.block-block.result
    (c.set_count-sets.ensures ∙ ap (λ w. length (demanded_sets w.model)) c.self.view_is) some c.block-block.ensures in
    omega (arith, end, places_few v.model v.slice c.assert_invariant.ensures.kept c.assert_invariant.ensures.own)

pub returns : goal.returns
returns c =
    let v = c.args.self.now in
    let some : 0 < c.set_count-sets.result = omega arith in
    last_block v.model v.slice c.set_count-sets.result c.block-block.result
    (c.set_count-sets.ensures ∙ ap (λ w. length (demanded_sets w.model)) c.self.view_is) some c.block-block.ensures
