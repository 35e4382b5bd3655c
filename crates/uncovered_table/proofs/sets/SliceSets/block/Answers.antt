use Rattle.std.proofs.Common.{◌+◌, ◌≡◌, ◌<◌, ◌∙◌, arith, length, subst}
use Rattle.definitions.specs.believed.Demand.{demanded_sets}
use Rattle.uncovered_table.specs.Bits.{tuple_count}
use Rattle.uncovered_table.specs.Kept.{AreBegins}
use Rattle.uncovered_table.specs.Places.{set_at, slice_start}
use Rattle.uncovered_table.proofs.BitLemmas.{first_bit_more}
use Rattle.uncovered_table.proofs.sets.SliceSets.block.Goals as goal

pub overflow_sub-result : goal.overflow_sub-result
overflow_sub-result c =
    let v = c.args.self.now in
    let are = subst (λ v. AreBegins v.model v.slice (length (demanded_sets v.model)) c.self.inside.tables.begins.items) c.self.view_is c.self.invariant.begins_are in
    let first = c.index-first.ensures ∙ are.each c.args.set _ (omega (arith, c.requires)) in
    let end = c.index-end.ensures ∙ are.each (c.args.set + 1) _ (omega (arith, c.requires)) in
    omega (arith, first, end, first_bit_more v.model v.slice c.args.set)

pub returns : goal.returns
returns c =
    let v = c.args.self.now in
    let are = subst (λ v. AreBegins v.model v.slice (length (demanded_sets v.model)) c.self.inside.tables.begins.items) c.self.view_is c.self.invariant.begins_are in
    let first = c.index-first.ensures ∙ are.each c.args.set _ (omega (arith, c.requires)) in
    let end = c.index-end.ensures ∙ are.each (c.args.set + 1) _ (omega (arith, c.requires)) in
    let rank = subst (λ w. 0 < tuple_count w.model w.slice c.args.set → c.first_rank.result ≡ slice_start w.model (set_at w.model c.args.set) w.slice)
    c.self.view_is c.first_rank.ensures in
    let more = first_bit_more v.model v.slice c.args.set in
    record {
      first = first;
      start = λ some. rank (omega (arith, some, first, end, more));
      count = omega (arith, first, end, more);
    }
