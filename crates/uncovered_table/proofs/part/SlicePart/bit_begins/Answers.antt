use Rattle.std.proofs.Common.{◌+◌, ◌≡◌, ◌<◌, ◌++◌, ◌∙◌, ◌∷◌, [], ap, arith, length, refl, subst, sym}
use Rattle.definitions.specs.believed.Demand.{demanded_sets}
use Rattle.uncovered_table.specs.Bits.{first_bit}
use Rattle.uncovered_table.specs.Kept.{AreBegins}
use Rattle.uncovered_table.proofs.BitLemmas.{first_bit_more}
use Rattle.uncovered_table.proofs.TableLemmas.{begins_more, begins_none, bits_few}
use Rattle.uncovered_table.proofs.part.SlicePart.bit_begins.Goals as goal

pub overflow_add-begin : goal.overflow_add-begin
overflow_add-begin c =
    let v = c.args.self.now in
    let exists : c.loop-set.set < length (demanded_sets v.model) = omega (arith, c.loop-set-test.true, c.set_count-count.ensures) in
    omega (
      arith,
      bits_few v.model v.slice c.loop-set.set c.assert_invariant.ensures.kept c.assert_invariant.ensures.own exists,
      c.loop-set.invariant.begin,
      c.ranks-begin.ensures.count,
    )

pub loop-set-init : goal.loop-set-init
loop-set-init c =
    let v = c.args.self.now in
    let items = c.in_ok-push.ensures.items ∙ ap (λ list. list ++ 0 ∷ []) c.in_ok-begins.ensures.items in
    record { begins = subst (AreBegins v.model v.slice 0) (sym items) (begins_none v.model v.slice); begin = refl }

pub loop-set-preserved : goal.loop-set-preserved
loop-set-preserved c =
    let v = c.args.self.now in
    let end : c.loop-set.begin + c.ranks-begin.result.1 ≡ first_bit v.model v.slice (c.loop-set.set + 1) =
    omega (arith, first_bit_more v.model v.slice c.loop-set.set, c.loop-set.invariant.begin, c.ranks-begin.ensures.count) in
    record {
      begins = subst (AreBegins v.model v.slice (c.loop-set.set + 1)) (sym c.in_ok-push-2.ensures.items)
          (begins_more v.model v.slice c.loop-set.set (c.loop-set.begin + c.ranks-begin.result.1) c.loop-set.begins.items c.loop-set.invariant.begins end);
      begin = end;
    }

pub returns : goal.returns
returns c =
    let v = c.args.self.now in
    let all : c.loop-set.set ≡ length (demanded_sets v.model) = omega (arith, c.loop-set-test.false, c.loop-set.auto.set-end, c.set_count-count.ensures) in
    subst (λ n. AreBegins v.model v.slice n c.loop-set.begins.items) all c.loop-set.invariant.begins
